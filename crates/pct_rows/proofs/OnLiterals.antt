-- What a row names on its `unfolding` line to compute with the definitions of the specification.
use Rattle.pct_names.proofs.Names.{acts_on_request, adds, after_transition, all_different, are_nested, begins_fork, begins_join}
use Rattle.pct_names.proofs.Names.{begins_sem_wait, begins_wait, broadcasts, called_kind, calls, calls_destructor, calls_handler}
use Rattle.pct_names.proofs.Names.{calls_once, calls_point, candidates, change_at, child_by, child_of, choices_at, chosen, close_of}
use Rattle.pct_names.proofs.Names.{creates, creates_key, declaration_syntax, deletes_key, detaches, due_places, emits, encode}
use Rattle.pct_names.proofs.Names.{ending_choices, ends_by_exit, ends_join, ends_now, ends_sem_wait, ends_thread, environment_of, exits}
use Rattle.pct_names.proofs.Names.{expires, fails_to_create, fails_to_create_key, family_among, finds_no_child, forks_by, format_of}
use Rattle.pct_names.proofs.Names.{free_ids, free_places, gets_self, gets_specific, given_after, goes_on_ending, goes_on_exiting, hands_on}
use Rattle.pct_names.proofs.Names.{has_each_name_once, has_first_word, has_line, has_lines, has_text, has_word, have_words, illegal_in}
use Rattle.pct_names.proofs.Names.{inherited, inside, is_name, is_static, jumps, keeps_limits, key_with, keyword_text, leaves_handler}
use Rattle.pct_names.proofs.Names.{leaves_routine, leaves_wait, left_places, locks, main_of, may_pass_point, name_at, named_after}
use Rattle.pct_names.proofs.Names.{names_plain, next_handler, none_wrong, onces_after, open_after, open_of, opening, options_of}
use Rattle.pct_names.proofs.Names.{other_process_after, outside, own_after, passes_point, point_kind, point_name, point_of, point_statement}
use Rattle.pct_names.proofs.Names.{points, pops, posts, process_after, pushes, reacquires, reaps, registers_fork, registers_if, requests}
use Rattle.pct_names.proofs.Names.{returns_by, returns_in_child, returns_in_parent, run, run_from, run_options, run_step, running_choices}
use Rattle.pct_names.proofs.Names.{running_rows, runs, sets, sets_mode, sets_specific, sets_state, shared_after, signals_by, statement_at}
use Rattle.pct_names.proofs.Names.{step, stop_after, stop_at, stops_of, syntax_of, tests_cancel, thread_at, transition_at, unlocks}
use Rattle.pct_names.proofs.Names.{value_of, variable_value, verdict_of, ⊤}

-- to check a script
unfoldable pub checks_on_literals : ⊤
unfolding keyword_text is_name all_different name_at points point_of point_name declaration_syntax syntax_of point_statement encode outside inside change_at open_after are_nested none_wrong has_word have_words has_first_word has_line has_lines has_text keeps_limits has_each_name_once names_plain is_static
checks_on_literals = tt

-- to compute steps, runs and verdicts, and the choices of the scheduler
unfoldable pub runs_on_literals : ⊤
unfolding main_of keyword_text key_with free_places due_places left_places statement_at value_of opening free_ids family_among environment_of format_of jumps emits sets variable_value adds calls pushes pops requests sets_state sets_mode tests_cancel points point_kind called_kind calls_point may_pass_point passes_point acts_on_request creates_key fails_to_create_key deletes_key sets_specific gets_specific locks unlocks begins_wait expires reacquires leaves_wait hands_on signals_by broadcasts begins_sem_wait ends_sem_wait posts calls_once leaves_routine next_handler calls_handler registers_fork begins_fork forks_by returns_in_parent returns_in_child leaves_handler finds_no_child reaps creates fails_to_create begins_join ends_join detaches gets_self ends_by_exit ends_thread calls_destructor goes_on_ending exits returns_by ends_now goes_on_exiting registers_if close_of open_of stops_of stop_at running_rows running_choices ending_choices choices_at runs transition_at thread_at onces_after own_after named_after shared_after process_after other_process_after inherited child_of child_by stop_after after_transition step run_step run_from illegal_in run verdict_of candidates chosen
runs_on_literals = tt

-- to read the arguments of `run`
unfoldable pub options_on_literals : ⊤
unfolding keyword_text given_after options_of run_options
options_on_literals = tt
