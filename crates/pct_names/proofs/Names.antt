-- The names that the proofs of the crates above import from the definitions and from the kit, passed on from one place. Declares nothing.
pub use Rattle.std.proofs.Common.{All, Bool, Contains, Err, IfOk, IsSomeAnd, List, MatchOption, None, Ok, OnOk, Option, Result, Some, []}
pub use Rattle.std.proofs.Common.{add-one, ap, ap₂, arith, bytes_eq, codes, cond, count_by, decimal, drop, eqb, false, filter, filter_map}
pub use Rattle.std.proofs.Common.{find, flat_map, get_or, if◌then◌else◌, inl, inr, is_none, is_some, le_antisymm, le_refl, length, lit≤}
pub use Rattle.std.proofs.Common.{map, min, mul-zero, mul_comm, nat_eq, nat_le, nat_lt, not, option_and_then, option_map, pos_of_ne-zero}
pub use Rattle.std.proofs.Common.{position, refl, replicate, reverse, rules, set, slice_get, slice_index, slice_index_or, slice_range}
pub use Rattle.std.proofs.Common.{slice_set, sub-one, subst, subst₂, suc, sym, take, take-add, take-suc, tests, true, unwrap_or, zero, ℕ}
pub use Rattle.std.proofs.Common.{◌%◌, ◌&&◌, ◌*◌, ◌++◌, ◌+◌, ◌-◌, ◌/◌, ◌<◌, ◌==◌, ◌^◌, ◌||◌, ◌↔◌, ◌∙◌, ◌∷◌, ◌≡◌, ◌≢◌, ◌≤◌, ◌⊎◌}
pub use Rattle.std.proofs.Crossing.{crosses}
pub use Rattle.std.proofs.KnownBytes.{Consumes-nil}
pub use Rattle.std.proofs.Math.Bool.{Bool-set}
pub use Rattle.std.proofs.Math.Nat.{add-mul-mod_self_left, eq-or-lt_of_le, mod-eq_of_lt, mul-le-mul}
pub use Rattle.std.proofs.Math.Seq.{drop-append-add, drop-append_seam, drop-cons, drop-length, get_or-append_seam, take-append-add}
pub use Rattle.std.proofs.Math.Seq.{take-append_seam, take-length, take-set-lt}
pub use Rattle.std.proofs.lemmas.Bool.{agree_below_at, and_from, and_left, and_parts, and_right, cases_Bool, cases_eq, cases_lt}
pub use Rattle.std.proofs.lemmas.Bool.{cases_order, cond-true, cond_both, eqb-false, false_from_ne_true, false≢true, le-ltb, lt-leb}
pub use Rattle.std.proofs.lemmas.Bool.{not-false, not-true, not_from_false, or_cases, or_from, or_left, or_parts, or_right}
pub use Rattle.std.proofs.lemmas.Bool.{true_from_ne_false}
pub use Rattle.std.proofs.lemmas.Bool.Decides.{eqb_tells, nat_tests}
pub use Rattle.std.proofs.lemmas.Fmt.{decimal_by_steps, decimal_digit, decimal_is_IsNumeral, decimal_nonempty, decimal_step}
pub use Rattle.std.proofs.lemmas.Fmt.{length-decimal-le}
pub use Rattle.std.proofs.lemmas.Grind.{common_steps, drop_more_same}
pub use Rattle.std.proofs.lemmas.Iterator.{YieldsList-from_slice}
pub use Rattle.std.proofs.lemmas.Iterator.Adapters.{position_from-zero}
pub use Rattle.std.proofs.lemmas.Iterator.Search.{any_from_yields_List}
pub use Rattle.std.proofs.lemmas.List.{append_cancel_left, at_drop_more, drop-append-le, drop-set-lt, drop_all, drop_more}
pub use Rattle.std.proofs.lemmas.List.{get_or-append-add, get_or-drop, get_or-replicate, get_or-reverse, get_or-take, get_or_append_left}
pub use Rattle.std.proofs.lemmas.List.{get_or_default, get_or_past, get_or_read, length-drop, length-map, length-replicate, length-reverse}
pub use Rattle.std.proofs.lemmas.List.{length-take, map-append, map-id, map-set, nil_from_length, reverse-append, reverse-reverse}
pub use Rattle.std.proofs.lemmas.List.{same_lists, set-get_or, set-set, set_past, take-append-drop, take-append-le, take-set-le, take_all}
pub use Rattle.std.proofs.lemmas.List.{take_at, take_more, take_more_set, take_rest, with_items_is}
pub use Rattle.std.proofs.lemmas.List.Concat.{flat_map-cons, flat_map_single}
pub use Rattle.std.proofs.lemmas.List.Edits.{between_none, map_over_more, swap_is}
pub use Rattle.std.proofs.lemmas.List.Elements.{All-append, All-cons, All-contains, All-contains_itself, All-filter, All-from_get_or}
pub use Rattle.std.proofs.lemmas.List.Elements.{All-from_recursion, All-get_or, All-head, All-map, All-nil, All-pop, All-push}
pub use Rattle.std.proofs.lemmas.List.Elements.{All-replicate, All-set, All-tail, All-weaker, Contains-append_left, Contains-append_right}
pub use Rattle.std.proofs.lemmas.List.Elements.{Contains-get_or, filter-append, filter_map-append, filter_passes}
pub use Rattle.std.proofs.lemmas.List.Folds.{Any-from_list_any, find-append, find_at, flat_map-map, fold-map, length-prefix_len}
pub use Rattle.std.proofs.lemmas.List.Folds.{list_all-append, list_all-map, list_all_at, list_any-append, list_any_at, list_any_none}
pub use Rattle.std.proofs.lemmas.List.FromFn.{get_or-map-range_with_len, get_or-range_with_len, length-enumerate_from}
pub use Rattle.std.proofs.lemmas.List.FromFn.{length-map-range_with_len, length-range_with_len, map-range_with_len_more}
pub use Rattle.std.proofs.lemmas.List.Quantifiers.{position-Some}
pub use Rattle.std.proofs.lemmas.List.Sorted.{IsPermutation-reverse, list_any-IsPermutation}
pub use Rattle.std.proofs.lemmas.List.Splits.{length-slice_split, slice_split_at, slice_split_none}
pub use Rattle.std.proofs.lemmas.List.Sums.{AllPass-from_list_all, count_by-le-length, count_by_more_no, count_by_more_yes}
pub use Rattle.std.proofs.lemmas.List.Sums.{fails_before_first, fold_push, get_or-le-sum_by, length-filter, list_all-from_AllPass}
pub use Rattle.std.proofs.lemmas.List.Sums.{passes_at_first, prefix_len-le-length, sum_by-cons}
pub use Rattle.std.proofs.lemmas.Map.Keys.{any_passes_from_place}
pub use Rattle.std.proofs.lemmas.Map.Views.{Contains-from_any}
pub use Rattle.std.proofs.lemmas.Nat.{mod-mul-add, mod_below}
pub use Rattle.std.proofs.lemmas.Option.{MatchOption-at_none, MatchOption-at_some, cond_some, get_or_from_slice_get, gets, none-some}
pub use Rattle.std.proofs.lemmas.Option.{option_and_then_some, same_Some, slice_get-get_or, slice_get-map, slice_get_cases, slice_get_past}
pub use Rattle.std.proofs.lemmas.Option.{slice_get_read, slice_get_within, some_pair_parts, unwrap_or-slice_get}
pub use Rattle.std.proofs.lemmas.Result.{IfOk-at_ok, err_from_is_err_and}
pub use Rattle.std.proofs.lemmas.Simd.{map-map, splat_is_map}
pub use Rattle.std.proofs.lemmas.Slice.{between_to_end}
pub use Rattle.std.proofs.lemmas.Str.{digit_value_digit}
pub use Rattle.std.proofs.lemmas.Str.Parse.{IsNumeralModel, numerals_by_value, parse_digits}
pub use Rattle.std.proofs.lemmas.Str.Pattern.{split_once_first}
pub use Rattle.std.specs.Char.{digit_value}
pub use Rattle.std.specs.Fmt.{digit_glyph, digits_onto}
unfoldable pub use Rattle.std.specs.Fmt.{digits}
pub use Rattle.std.specs.Global.{Box}
pub use Rattle.std.specs.Int.{from_bool}
pub use Rattle.std.specs.Io.KnownBytes.{Appends, Consumes}
pub use Rattle.std.specs.Iterator.Adapters.{zip_first, zip_second}
pub use Rattle.std.specs.List.{AllByRecursion, AllZip, PartBy, after_first, before_first, concat, cons_option, enumerate_from}
pub use Rattle.std.specs.List.{join_with_byte, list_all, list_any, onto_first, position_from, position_or_len, range_with_len, slice_split}
pub use Rattle.std.specs.List.{starts_with, swap}
pub use Rattle.std.specs.List.Sorted.{IsStrictlyIncreasing}
pub use Rattle.std.specs.Option.{IsSome, option_eq, option_flatten, option_map_or, option_or}
pub use Rattle.std.specs.Prelude.{IfErr, IfSome, IsOk, IsTrue, string_bytes, sum_by, vec_capacity, vec_len, zip, ⊤}
pub use Rattle.std.specs.Result.{OkIff, result_ok}
pub use Rattle.std.specs.Slice.Iter.{iter_rest}
pub use Rattle.std.specs.Str.Parse.{ParsesUnsigned, digits_value, digits_value_after}
pub use Rattle.std.specs.contracts.impls.GlobalAllocator.TheImpl.{ghosts}
pub use lib.ListN.{get_elem?}
pub use mathlib.Core.Bool.{and_comm, or-true}
pub use native.Mathlib.Decide.{dec_le, ℕ_discrete}
pub use native.Mathlib.Nat.{mul-lt-mul_of_pos_left, zero-mod}
pub use Rattle.pct_model.specs.declared.event.Caller.{Caller}
pub use Rattle.pct_model.specs.declared.event.Event.{Event}
pub use Rattle.pct_model.specs.declared.event.What.{What}
pub use Rattle.pct_model.specs.declared.event.What.TheVariants.{Called, Forked, Popped, Pushed}
pub use Rattle.pct_model.specs.declared.frame.Frame.{Frame}
pub use Rattle.pct_model.specs.declared.keyword.Keyword.{Keyword}
pub use Rattle.pct_model.specs.declared.limits.TheConstants.{DEFAULT_BUDGET, DEFAULT_PASSES, DEFAULT_SEED, DEFAULT_SLOTS, DEFAULT_WORKERS}
pub use Rattle.pct_model.specs.declared.limits.TheConstants.{MAX_BUDGET, MAX_DECLARED, MAX_FORK_HANDLERS, MAX_FRAMES, MAX_HANDLERS}
pub use Rattle.pct_model.specs.declared.limits.TheConstants.{MAX_KEYS, MAX_PASSES, MAX_PROCESSES, MAX_SLOTS, MAX_WORKER, MIN_PASSES}
pub use Rattle.pct_model.specs.declared.line_kind.ArgumentKind.{ArgumentKind}
pub use Rattle.pct_model.specs.declared.line_kind.LineKind.{LineKind}
pub use Rattle.pct_model.specs.declared.line_kind.SymbolKind.{SymbolKind}
pub use Rattle.pct_model.specs.declared.name.Name.{Name}
pub use Rattle.pct_model.specs.declared.numbers.TheConstants.{EAGAIN, ECHILD, ENOMEM, ETIMEDOUT}
pub use Rattle.pct_model.specs.declared.parsed_line.Argument.{Argument}
pub use Rattle.pct_model.specs.declared.parsed_line.ParsedLine.{ParsedLine}
pub use Rattle.pct_model.specs.declared.parsed_line.Token.{Token}
pub use Rattle.pct_model.specs.declared.point.Point.{Point}
pub use Rattle.pct_model.specs.declared.point.PointKind.{PointKind}
pub use Rattle.pct_model.specs.declared.point.PointKind.TheVariants.{Optional, Required}
pub use Rattle.pct_model.specs.declared.point.PointWait.{PointWait}
pub use Rattle.pct_model.specs.declared.point.PointWait.TheVariants.{NoWait}
pub use Rattle.pct_model.specs.declared.point.TheConstants.{COND_WAIT_POINT, JOIN_POINT, SEM_WAIT_POINT, TESTCANCEL_POINT, WAITPID_POINT}
pub use Rattle.pct_model.specs.declared.process.ForkHandlers.{ForkHandlers}
pub use Rattle.pct_model.specs.declared.process.HandlerCall.{HandlerCall}
pub use Rattle.pct_model.specs.declared.process.Relative.{Relative}
pub use Rattle.pct_model.specs.declared.refusal.ParseWhy.{ParseWhy}
pub use Rattle.pct_model.specs.declared.refusal.ParseWhy.TheVariants.{NameTwice, NoMain, NotAscii, NotPlain, ReturnInPush, TooMany}
pub use Rattle.pct_model.specs.declared.refusal.ParseWhy.TheVariants.{Unclosed, UnknownName, UnknownWord, WordCount}
pub use Rattle.pct_model.specs.declared.refusal.ScheduleWhy.{ScheduleWhy}
pub use Rattle.pct_model.specs.declared.role.Block.{Block}
pub use Rattle.pct_model.specs.declared.role.Change.{Change}
pub use Rattle.pct_model.specs.declared.role.Change.TheVariants.{Stays}
pub use Rattle.pct_model.specs.declared.role.Role.{Role}
pub use Rattle.pct_model.specs.declared.run_options.RunOption.{RunOption}
pub use Rattle.pct_model.specs.declared.run_options.RunOptions.{RunOptions}
pub use Rattle.pct_model.specs.declared.schedule.Alt.{Alt}
pub use Rattle.pct_model.specs.declared.schedule.Alt.TheVariants.{Go}
pub use Rattle.pct_model.specs.declared.schedule.Config.{Config}
pub use Rattle.pct_model.specs.declared.schedule.Entry.{Entry}
pub use Rattle.pct_model.specs.declared.schedule.Format.{Format}
pub use Rattle.pct_model.specs.declared.script.Func.{Func}
pub use Rattle.pct_model.specs.declared.script.Script.{Script}
pub use Rattle.pct_model.specs.declared.script.SemDecl.{SemDecl}
pub use Rattle.pct_model.specs.declared.state.Cause.{Cause}
pub use Rattle.pct_model.specs.declared.state.Cause.TheVariants.{Broadcast, Signalled}
pub use Rattle.pct_model.specs.declared.state.ForkAt.{ForkAt}
pub use Rattle.pct_model.specs.declared.state.FrameKind.{FrameKind}
pub use Rattle.pct_model.specs.declared.state.FrameKind.TheVariants.{Main, Start}
pub use Rattle.pct_model.specs.declared.state.Mode.{Mode}
pub use Rattle.pct_model.specs.declared.state.Mode.TheVariants.{Asynchronous, Deferred}
pub use Rattle.pct_model.specs.declared.state.OnceState.{OnceState}
pub use Rattle.pct_model.specs.declared.state.OnceState.TheVariants.{Busy, Fresh}
pub use Rattle.pct_model.specs.declared.state.Phase.{Phase}
pub use Rattle.pct_model.specs.declared.state.Phase.TheVariants.{Parent, Prepare}
pub use Rattle.pct_model.specs.declared.state.Reason.{Reason}
pub use Rattle.pct_model.specs.declared.state.State.{State}
pub use Rattle.pct_model.specs.declared.state.State.TheVariants.{Disable, Enable}
pub use Rattle.pct_model.specs.declared.state.Status.{Status}
pub use Rattle.pct_model.specs.declared.state.Status.TheVariants.{Ended, Forking, Reacquire, Running, Waiting}
pub use Rattle.pct_model.specs.declared.statement.Dest.{Dest}
pub use Rattle.pct_model.specs.declared.statement.Operand.{Operand}
pub use Rattle.pct_model.specs.declared.statement.Stmt.{Stmt}
pub use Rattle.pct_model.specs.declared.stop.Verdict.{Verdict}
pub use Rattle.pct_model.specs.declared.stop.Verdict.TheVariants.{Budget, Complete, Deadlock, Open}
pub use Rattle.pct_model.specs.declared.stop.Why.{Why}
pub use Rattle.pct_model.specs.declared.stop.Why.TheVariants.{AsyncCall, ForkChildCall}
pub use Rattle.pct_model.specs.declared.transition.NamedAction.{NamedAction}
pub use Rattle.pct_model.specs.declared.transition.NewThread.{NewThread}
pub use Rattle.pct_model.specs.declared.transition.OwnAction.{OwnAction}
pub use Rattle.pct_model.specs.declared.transition.ProcessAction.{ProcessAction}
pub use Rattle.pct_model.specs.declared.transition.SharedAction.{SharedAction}
pub use Rattle.pct_model.specs.declared.transition.Transition.{Transition}
pub use Rattle.pct_model.specs.Actions.{as_reaped, at_pc, changed, frames_written, globals_written, has_ended, in_child, is_live_process}
pub use Rattle.pct_model.specs.Actions.{moved, orphaned, process_made, process_moved, replica_of, set_local, shared_moved, thread_created}
pub use Rattle.pct_model.specs.Actions.{thread_moved, threads_moved, without_first, written}
unfoldable pub use Rattle.pct_model.specs.Actions.{after_transition, child_by, child_of, inherited, named_after, other_process_after}
unfoldable pub use Rattle.pct_model.specs.Actions.{onces_after, own_after, process_after, shared_after, stop_after, thread_at}
pub use Rattle.pct_model.specs.CancelCalls.{is_optional, is_required, mode_if, mode_number, state_if, state_number, testcancel_point}
unfoldable pub use Rattle.pct_model.specs.CancelCalls.{acts_on_request, called_kind, calls_point, may_pass_point, passes_point, point_kind}
unfoldable pub use Rattle.pct_model.specs.CancelCalls.{requests, sets_mode, sets_state, tests_cancel}
pub use Rattle.pct_model.specs.Cancelability.{ending_mode, ending_state, is_asynchronous, is_deliverable}
pub use Rattle.pct_model.specs.Canon.{canon, declaration_line, flag_text, symbol_kind_at}
unfoldable pub use Rattle.pct_model.specs.Canon.{argument_text, argument_texts, function_lines, script_lines, statement_words}
pub use Rattle.pct_model.specs.Checks.{FirstFault, asks_plain, exceeds, fault_at_line, first_in, first_that, has_many_locals, headers}
pub use Rattle.pct_model.specs.Checks.{is_in_push, is_plain, is_plain_section, is_pop, is_push, most, roles, unknown_in}
unfoldable pub use Rattle.pct_model.specs.Checks.{checks, declares_again, exceeds_limit, first_fault, first_wrong, is_plain_function}
unfoldable pub use Rattle.pct_model.specs.Checks.{name_twice, names_other, no_main, none_wrong, not_plain, plain_names, return_in_push}
unfoldable pub use Rattle.pct_model.specs.Checks.{too_many, unknown_name, uses_unknown}
pub use Rattle.pct_model.specs.ChoiceTable.{ChoiceRow, act_if, can_expire, choices_of, dtor_or_go, expire_if, first_row, go_if}
pub use Rattle.pct_model.specs.ChoiceTable.{hand_on_or_act, is_blocked, is_create, is_enabled, is_key_create, is_signal, is_timed_wait, new_or_go}
pub use Rattle.pct_model.specs.ChoiceTable.{offers, pick_or_go, same_choice, unblocked_acts, waiters_to_signal}
unfoldable pub use Rattle.pct_model.specs.ChoiceTable.{choices_at, ending_choices, running_choices, running_rows}
pub use Rattle.pct_model.specs.Chosen.{Candidate, candidate, entry_for, item_at, ready_of}
unfoldable pub use Rattle.pct_model.specs.Chosen.{candidates, chosen}
unfoldable pub use Rattle.pct_model.specs.CleanupHandlers.{pops, pushes}
pub use Rattle.pct_model.specs.CondCalls.{cond_timedwait_point, cond_wait_point, is_waiting_on, unblocked}
unfoldable pub use Rattle.pct_model.specs.CondCalls.{begins_wait, broadcasts, expires, hands_on, leaves_wait, reacquires, signals_by}
pub use Rattle.pct_model.specs.Contents.{Contents, item, names_of_kind, variable}
unfoldable pub use Rattle.pct_model.specs.Contents.{resolve, resolve_all, resolve_name}
pub use Rattle.pct_model.specs.Demo.{IsCountedRun, emitted, summary_of}
unfoldable pub use Rattle.pct_model.specs.Demo.{demo_number, summary_lines, total_of}
pub use Rattle.pct_model.specs.EventTexts.{EventNames, caller_name, either, event_names, func_name, line_kind_of_caller}
unfoldable pub use Rattle.pct_model.specs.EventTexts.{event_words}
pub use Rattle.pct_model.specs.Formats.{config_for, format_number, has_choice, has_timeouts, is_timed}
unfoldable pub use Rattle.pct_model.specs.Formats.{format_of}
pub use Rattle.pct_model.specs.ForkCalls.{begins_waitpid, goes_on_after_handlers, goes_on_forking, handler_at, handler_event, handler_for}
pub use Rattle.pct_model.specs.ForkCalls.{handlers_among, indexes_left, reaps_if, waitpid_point, waits_at, while_called}
unfoldable pub use Rattle.pct_model.specs.ForkCalls.{begins_fork, calls_handler, finds_no_child, forks_by, leaves_handler, next_handler}
unfoldable pub use Rattle.pct_model.specs.ForkCalls.{reaps, registers_fork, returns_in_child, returns_in_parent}
pub use Rattle.pct_model.specs.GeneratedScript.{end_texts, first_globals, later_declarations, rounds_of, threads_of}
unfoldable pub use Rattle.pct_model.specs.GeneratedScript.{function_texts, generated_lines, generated_text, round_texts}
pub use Rattle.pct_model.specs.Jumps.{closes, closes_else, closing, ends, first_later, holds, is_else, is_if, is_while}
unfoldable pub use Rattle.pct_model.specs.Jumps.{close_of, open_of}
pub use Rattle.pct_model.specs.KeyCalls.{creates_key_by}
unfoldable pub use Rattle.pct_model.specs.KeyCalls.{creates_key, deletes_key, fails_to_create_key, gets_specific, sets_specific}
pub use Rattle.pct_model.specs.Keys.{Key, KeyPlace, KeyValues, if_number, is_due, is_left, key_at, key_place, left_keys, new_keys, next_key}
pub use Rattle.pct_model.specs.Keys.{no_keys, no_values, number_at, on_place, value_at, with_key, with_pass, with_value, without_key}
pub use Rattle.pct_model.specs.Keys.{without_value}
unfoldable pub use Rattle.pct_model.specs.Keys.{due_places, free_places, key_with, left_places}
pub use Rattle.pct_model.specs.Keywords.{line_text, text_of}
unfoldable pub use Rattle.pct_model.specs.Keywords.{keyword_text}
pub use Rattle.pct_model.specs.LineKinds.{fn_argument_kinds, is_foreign, is_generic, is_no_point}
unfoldable pub use Rattle.pct_model.specs.LineKinds.{declaration_syntax, line_kind_of, line_kinds, point_statement, syntax_of}
pub use Rattle.pct_model.specs.LineParsing.{Numbered, begins_comment, is_allowed, is_blank, is_empty, is_numeral, name, parsed_as}
pub use Rattle.pct_model.specs.LineParsing.{spell_something}
unfoldable pub use Rattle.pct_model.specs.LineParsing.{numeral, parsed, parsed_words, spelled_lines, token_at, tokens_at, words_in}
pub use Rattle.pct_model.specs.Lines.{without_empty_last, words_of, ◌>>=◌}
unfoldable pub use Rattle.pct_model.specs.Lines.{lines_of, number_of, split_once, strip_cr}
pub use Rattle.pct_model.specs.MutexCalls.{is_free_mutex, owns}
unfoldable pub use Rattle.pct_model.specs.MutexCalls.{locks, unlocks}
pub use Rattle.pct_model.specs.Names.{index_among, is_digit, is_name_byte, names_of}
unfoldable pub use Rattle.pct_model.specs.Names.{all_different, is_name, main_of, name_at}
pub use Rattle.pct_model.specs.Nesting.{Blocks, faulty_or, kinds_of, nesting, nests_or, opened_by}
unfoldable pub use Rattle.pct_model.specs.Nesting.{are_nested, change_at, inside, nesting_in, open_after, open_after_line, outside}
pub use Rattle.pct_model.specs.NextStatement.{NextStatement, NoStatement, StatementIn, body_at, next_in, next_of}
pub use Rattle.pct_model.specs.OnceCalls.{abandoned, is_busy, is_fresh, once_at}
unfoldable pub use Rattle.pct_model.specs.OnceCalls.{calls_once, leaves_routine}
pub use Rattle.pct_model.specs.OtherProcesses.{Family, family_of, is_running_child, is_unreaped, pid_after, relative_of}
unfoldable pub use Rattle.pct_model.specs.OtherProcesses.{family_among}
pub use Rattle.pct_model.specs.Environment.{Environment, Waiter, exit_value_of, exit_value_with, is_detached_thread, is_ended_thread}
pub use Rattle.pct_model.specs.Environment.{is_joined_by_one, is_joining, is_last, names_no_thread, waiter_by, waiters_among}
pub use Rattle.pct_model.specs.Environment.{waits_with_another_mutex}
unfoldable pub use Rattle.pct_model.specs.Environment.{environment_of}
pub use Rattle.pct_model.specs.Outcome.{Demonstrates, Outcome, Ran, Runs, asks_demo, asks_sample, is_accepted, needs_input}
unfoldable pub use Rattle.pct_model.specs.Outcome.{code_of_verdict, is_asked, refused_entry, refused_input, refused_schedule}
unfoldable pub use Rattle.pct_model.specs.Outcome.{refused_script, refused_words, schedule_part, script_part}
pub use Rattle.pct_model.specs.Points.{Row, point_at, row_words}
unfoldable pub use Rattle.pct_model.specs.Points.{point_name, point_of, points, points_text}
pub use Rattle.pct_model.specs.ProcessExit.{may_register}
unfoldable pub use Rattle.pct_model.specs.ProcessExit.{ends_now, exits, goes_on_exiting, registers_if, returns_by}
pub use Rattle.pct_model.specs.Report.{report_of}
unfoldable pub use Rattle.pct_model.specs.Report.{alt_words, end_line, entry_line, event_line, header_line, report, report_lines}
unfoldable pub use Rattle.pct_model.specs.Report.{schedule_lines, thread_text, title_line, verdict_line, verdict_words}
pub use Rattle.pct_model.specs.Run.{Run, event_of, first_illegal, has_ready, is_config, is_ready, verdict_by}
unfoldable pub use Rattle.pct_model.specs.Run.{illegal_in, run, run_from, run_step, verdict_of}
pub use Rattle.pct_model.specs.RunOptions.{GivenOption, HasWorkers, all_options, default_config, greatest_value, is_named, least_value}
pub use Rattle.pct_model.specs.RunOptions.{number_by, number_given, numbers_given, option_name, values_given}
unfoldable pub use Rattle.pct_model.specs.RunOptions.{given_after, options_of, run_options}
unfoldable pub use Rattle.pct_model.specs.Sample.{sample_number, seed_count}
pub use Rattle.pct_model.specs.Schedule.{Read, Schedule, choice_of, config_of, entry_in, entry_of_parts, entry_of_words, format_with}
pub use Rattle.pct_model.specs.Schedule.{header_of_words, if_config, if_known, plain_choice}
pub use Rattle.pct_model.specs.Schedule.{is_end_of_words, is_marker, is_number, nothing_after, numbered_choice, prepend_entry, read_end}
pub use Rattle.pct_model.specs.Schedule.{read_entry, schedule_at, split_at_marker, with_config}
unfoldable pub use Rattle.pct_model.specs.Schedule.{entries_from, entry_of, header_of, marker_in, replay_parts, sched_of, schedule_from}
pub use Rattle.pct_model.specs.ScriptStatements.{after_block, after_end, after_test}
unfoldable pub use Rattle.pct_model.specs.ScriptStatements.{adds, calls, emits, jumps, sets, variable_value}
pub use Rattle.pct_model.specs.Sections.{Line, Section, Sections, are_in_functions, argument_kinds_in, declared_by, declares, declares_by}
pub use Rattle.pct_model.specs.Sections.{declaring, functions_in, is_declaration, is_function, is_same, is_statement, locals_of}
pub use Rattle.pct_model.specs.Sections.{names_declared, names_in, parsed_numbered, prepend_line, role_in, sections_of}
unfoldable pub use Rattle.pct_model.specs.Sections.{parsed_lines, split_sections}
pub use Rattle.pct_model.specs.SemCalls.{sem_timedwait_point, sem_wait_point}
unfoldable pub use Rattle.pct_model.specs.SemCalls.{begins_sem_wait, ends_sem_wait, posts}
pub use Rattle.pct_model.specs.Spelling.{Fault, first_of}
unfoldable pub use Rattle.pct_model.specs.Spelling.{fault_at, fault_of_words, faulty_word, misspelled, spelling, why_not}
pub use Rattle.pct_model.specs.Spells.{AreContents, Spells, SpellsBody, SpellsContents, contents_of, encoded}
unfoldable pub use Rattle.pct_model.specs.Spells.{declarations}
pub use Rattle.pct_model.specs.Statements.{EncodedStmt, argument_kinds_of, arguments_of, dest, detached_or_not, line_kind_of_statement}
pub use Rattle.pct_model.specs.Statements.{optional, role_of, value}
unfoldable pub use Rattle.pct_model.specs.Statements.{encode}
pub use Rattle.pct_model.specs.Static.{all_names, has_main, is_found, is_item, is_nothing, is_plain_at, is_plain_body, is_seen, is_variable}
pub use Rattle.pct_model.specs.Static.{is_within, names_plain_functions, nests, returns_outside_pushes, statement_lines}
unfoldable pub use Rattle.pct_model.specs.Static.{has_each_name_once, has_first_word, has_line, has_lines, has_text, has_word, have_words}
unfoldable pub use Rattle.pct_model.specs.Static.{is_static, keeps_limits, names_plain}
pub use Rattle.pct_model.specs.StatusKinds.{calls_cancellation_point, has_left_wait, has_no_frame, is_at_cancellation_point, is_forking}
pub use Rattle.pct_model.specs.Step.{IsLegalStep, Legal, Successor, if_offered, transition_of}
unfoldable pub use Rattle.pct_model.specs.Step.{step}
pub use Rattle.pct_model.specs.StopTable.{StopTest, exits_twice, first_stop, has_begun_to_end, is_allowed_asynchronously}
pub use Rattle.pct_model.specs.StopTable.{is_forbidden_in_child, is_fork_kind, is_handler_kind, is_in_handler, is_safe_point, is_stack_full}
unfoldable pub use Rattle.pct_model.specs.StopTable.{stop_at, stops_of}
pub use Rattle.pct_model.specs.StopTexts.{class_of_stop, name_of_stop}
unfoldable pub use Rattle.pct_model.specs.StopTexts.{stop_words}
pub use Rattle.pct_model.specs.ThreadCalls.{creates_by, join_point, joins_at}
unfoldable pub use Rattle.pct_model.specs.ThreadCalls.{begins_join, creates, detaches, ends_join, fails_to_create, gets_self}
pub use Rattle.pct_model.specs.ThreadEnds.{due_keys, end_value}
unfoldable pub use Rattle.pct_model.specs.ThreadEnds.{calls_destructor, ends_by_exit, ends_thread, goes_on_ending}
pub use Rattle.pct_model.specs.ThreadNumbers.{ForksMade, HasProcessNumbers, HasThreadNumbers, IsOfThread, NumbersThreads}
pub use Rattle.pct_model.specs.ThreadSlots.{by_slot, exits_after_its_end, has_valid_id, holds_slot, is_ended_status, is_free, is_on}
pub use Rattle.pct_model.specs.ThreadSlots.{is_unreclaimed, next_id, slot_of, was_reclaimed, with_id}
unfoldable pub use Rattle.pct_model.specs.ThreadSlots.{free_ids}
pub use Rattle.pct_model.specs.TransitionTable.{acts_or, ends_block, stops_or, transition_by}
unfoldable pub use Rattle.pct_model.specs.TransitionTable.{runs, transition_at}
pub use Rattle.pct_model.specs.Transitions.{acts, creates_thread, goes_on, no_change, stops}
pub use Rattle.pct_model.specs.World.{Process, ProcessEnd, SharedState, Thread, World, body_of, first_process, made_process, made_thread}
pub use Rattle.pct_model.specs.World.{new_frame, new_shared, new_thread, thread_with, was_reaped}
unfoldable pub use Rattle.pct_model.specs.World.{opening, statement_at, value_of}
