-- What a closed computation unfolds, said once: whoever unfolds `everything` unfolds what its line names.
use Rattle.rules.specs.Lists.{both, either, all, any, each, among, distinct, those, least, from, below, first, lowest}
use Rattle.rules.specs.Words.{has, is_type, is_term, form, cells, elements, arguments, bare, variables}
use Rattle.rules.specs.Answers.{number, records, pairs}
use Rattle.rules.specs.Records.{shapes, shape, list_of, fits, shaped, alike, listed, new_type, first_cell, reference, uses, first_use, keeps, broken}
use Rattle.rules.specs.Typing.{final_type, domains, applied, fills, check_term, checks, typed, ill_typed}
use Rattle.rules.specs.Pattern.{pattern, offence_in, offence, no_pattern}
use Rattle.rules.specs.Store.{fail, ◌>>=◌, put, push, solved, solution, settle, push_cells, push_variables, push_occurrence}
use Rattle.rules.specs.Map.{lookup, place_of, to_positions, to_variables, follow}
use Rattle.rules.specs.Rewrite.{write_all, write_term, keep_hole, copy, expand}
use Rattle.rules.specs.Walk.{narrow, keep_placed, walk_hole, walk, assign}
use Rattle.rules.specs.Machine.{zip, join, agreeing, same_hole, solve_one, same_head, meet, step, upcoming, run, weight, steps, equations, machine}
use Rattle.rules.specs.Solve.{refusal, filled, start, emptied, leaves, solve}
use Rattle.rules.specs.Show.{show_hole, expand_hole, show_term, answer, shows, show}
use Rattle.rules.specs.File.{marks, tag_of, marked, word, is_known, tag_word, file_words, read}
use Rattle.rules.specs.FileWrite.{word_bytes, mark_bytes, record_bytes, file_bytes, write}
use Rattle.rules.specs.Text.{digits, decimal, joined, commas, brackets, print_term, printed, reply_line, shown_text, hole_line, solved_lines, lines, program_lines, program}

unfoldable pub everything : Unit {0}
unfolding both either all any each among distinct those least from below first lowest has is_type is_term form cells elements arguments bare variables number records pairs shapes shape list_of fits shaped alike listed new_type first_cell reference uses first_use keeps broken final_type domains applied fills check_term checks typed ill_typed pattern offence_in offence no_pattern fail ◌>>=◌ put push solved solution settle push_cells push_variables push_occurrence lookup place_of to_positions to_variables follow write_all write_term keep_hole copy expand narrow keep_placed walk_hole walk assign zip join agreeing same_hole solve_one same_head meet step upcoming run weight steps equations machine refusal filled start emptied leaves solve show_hole expand_hole show_term answer shows show marks tag_of marked word is_known tag_word file_words read word_bytes mark_bytes record_bytes file_bytes write digits decimal joined commas brackets print_term printed reply_line shown_text hole_line solved_lines lines program_lines program
everything = tt
