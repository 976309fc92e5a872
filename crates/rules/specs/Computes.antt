-- All definitions by which a row computes, named once: a proof by computing says `unfolding computes`. Written by oracle/antt/unfolding.py.
use Rattle.std.specs.Prelude.{ℕ}
use mathlib.Core.List.{flatten}
use Rattle.std.specs.Float.Ieee.{of_bits, lt}
use Rattle.base.specs.OrderChecks.{order_from, order_of}
use Rattle.base.specs.Pick.{pick}
use Rattle.base.specs.Sort.{insert, sort_of}
use Rattle.base.specs.Verdicts.{or_else}
use Rattle.rules.specs.Lists.{member, filter, count, sum, up_from}
use Rattle.rules.specs.Text.{text}
use Rattle.rules.specs.Score.{add, ascending, union, in_both, score, number_of, pivot_hash}
use Rattle.rules.specs.Script.{stepped, active, pivot_of, shared_of, look, counts_after, no_counts, looks, last_or, final}
use Rattle.rules.specs.Moves.{marks, in_query, is_active, in_union, is_shared, before, first_from, after, insert_shared, insert_other, insert_ref, delete_shared, delete_other, delete_ref, begin, moved, moved_by, slide_look, looks_by_moves}
use Rattle.rules.specs.Sweep.{base, better, best_from, best}
use Rattle.rules.specs.Minimizer.{windows_per_start, items_of, is_local, local_items, position, part, score_items, below, first_stop, goes_on, to_begin, to_end, next_stop, moves, stops_from, stops, scored_stop, scored_stops, admitted, scored_start, scored_starts}
use Rattle.rules.specs.Interval.{kmers_per_start, intervals_of, is_taken, taken, hashes_of, coords_of, event_key, event_at, event_kind, event_coord, events_of, events, inserted, beginning, span, spans_from, spans, covers, scored_position, scored_positions}
use Rattle.rules.specs.Place.{estimate_at, start_of, place_of, settled, settled_in, no_stats, minimizer_early, minimizer_stats, minimizer_from, minimizer_answer, minimizer_by_scoring, interval_early, interval_stats, interval_from, interval_answer, interval_by_scoring}
use Rattle.rules.specs.Finder.{kept, seed_hits, key_of, key_contig, key_at, joins, joined, join_from, join_all, keys_of, hit_keys, run_range, run_ranges, minimizer_found, events_of_hits, hit_events, active_after, covered_to, covered_from, covered, interval_found}
use Rattle.rules.specs.Checks.{minimizer_input, interval_input, first_missing, first_bad_step, script_input, minimizer_finder_input, interval_finder_input}
use Rattle.rules.specs.Refusals.{need, minimizer_input_in, minimizer_verdict, interval_input_in, interval_verdict, script_verdict, minimizer_finder_verdict, interval_finder_verdict, sweep_answer_of, script_answer_of, finder_answer_of, minimizer_call, minimizer_scored, interval_call, interval_scored, script_call, minimizer_finder_call, interval_finder_call, work_left, output_left}
use Rattle.rules.specs.Job.{field_table, unit_of, misplaced, fits, wrong_value, too_many, fault_by, joined_data, mode_of, tag_before, fault_of, after_end, length_at, field_at, is_cut, read_from, read, number, number_at, units_of, units, job_of}
use Rattle.rules.specs.Lines.{digits, decimal, hex_digit, hex, line, counts_line, refused_line, mapped_line, identity_line, answer_lines, job_answer, lines_of, printed, lines_of_failed, printed_after_failure, said}
use Rattle.rules.specs.Told.{told_refused, told_done, told_sweep, told_script, told_finder, told_looks, told_candidates}
use Rattle.rules.specs.Calls.{minimizer_premises, interval_premises, sweep_room_of, script_room_of, finder_room_of}

unfoldable pub computes : ℕ
unfolding flatten of_bits lt
    order_from order_of
    pick
    insert sort_of
    or_else
    member filter count sum up_from
    text
    add ascending union in_both score number_of pivot_hash
    stepped active pivot_of shared_of look counts_after no_counts looks last_or final
    marks in_query is_active in_union is_shared before first_from after insert_shared insert_other insert_ref delete_shared delete_other delete_ref begin moved moved_by slide_look looks_by_moves
    base better best_from best
    windows_per_start items_of is_local local_items position part score_items below first_stop goes_on to_begin to_end next_stop moves stops_from stops scored_stop scored_stops admitted scored_start scored_starts
    kmers_per_start intervals_of is_taken taken hashes_of coords_of event_key event_at event_kind event_coord events_of events inserted beginning span spans_from spans covers scored_position scored_positions
    estimate_at start_of place_of settled settled_in no_stats minimizer_early minimizer_stats minimizer_from minimizer_answer minimizer_by_scoring interval_early interval_stats interval_from interval_answer interval_by_scoring
    kept seed_hits key_of key_contig key_at joins joined join_from join_all keys_of hit_keys run_range run_ranges minimizer_found events_of_hits hit_events active_after covered_to covered_from covered interval_found
    minimizer_input interval_input first_missing first_bad_step script_input minimizer_finder_input interval_finder_input
    need minimizer_input_in minimizer_verdict interval_input_in interval_verdict script_verdict minimizer_finder_verdict interval_finder_verdict sweep_answer_of script_answer_of finder_answer_of minimizer_call minimizer_scored interval_call interval_scored script_call minimizer_finder_call interval_finder_call work_left output_left
    field_table unit_of misplaced fits wrong_value too_many fault_by joined_data mode_of tag_before fault_of after_end length_at field_at is_cut read_from read number number_at units_of units job_of
    digits decimal hex_digit hex line counts_line refused_line mapped_line identity_line answer_lines job_answer lines_of printed lines_of_failed printed_after_failure said
    told_refused told_done told_sweep told_script told_finder told_looks told_candidates
    minimizer_premises interval_premises sweep_room_of script_room_of finder_room_of
computes = 0
