-- Rows of our own, at the edges: where demand 3's premises hold, each refusal with its place, needs exactly met and one short, every way to none.
use Rattle.std.specs.Prelude.{ℕ, ◌≡◌, refl, true, false, List, [], ◌∷◌, map, length, replicate, Float}
use Rattle.std.specs.Float.{binary64, nan}
use Rattle.std.specs.Float.Ieee.{of_bits}
use Rattle.base.specs.Verdicts.{Verdict}
use Rattle.base.specs.Verdicts.{Fine}
use Rattle.rules.specs.Script.{Script, looks}
use Rattle.rules.specs.Moves.{looks_by_moves}
use Rattle.rules.specs.Sweep.{Sweep}
use Rattle.rules.specs.Place.{minimizer_answer, minimizer_by_scoring, interval_answer, interval_by_scoring}
use Rattle.rules.specs.Finder.{Finder, seed_hits, minimizer_found, interval_found}
use Rattle.base.specs.Verdicts.{Verdict, Fine, refuse}
use Rattle.rules.specs.Checks.{minimizer_sizes, interval_sizes, sweep_orders, sweep_table, sweep_needs, keys_need, script_sizes, script_orders, script_members, script_needs, minimizer_finder_sizes, minimizer_finder_lengths, interval_finder_sizes, interval_finder_lengths, finder_needs, end_keys_need}
use Rattle.rules.specs.Refusals.{SweepRoom, ScriptRoom, FinderRoom, minimizer_call, interval_call, script_call, minimizer_finder_call, interval_finder_call, work_left, output_left}
use Rattle.rules.specs.Told.{told_done, told_sweep, told_script, told_finder, told_looks, told_candidates}
use Rattle.rules.specs.Calls.{minimizer_premises, interval_premises}
use Rattle.rules.specs.Computes.{computes}
use Rattle.rules.specs.Examples.{Row, says, list, placed, nothing, refused, script_a, empty_script, f0, f50, f100, sweep_of, case_b, case_c, case_d, case_e, case_f, case_g}
use Rattle.base.specs.declared.Reason.TheVariants.{ShortBuffer, TooLarge, BadSetting, UnequalLengths, QueryOrder, ItemOrder, NotMember, ShortTable}
use Rattle.base.specs.declared.Reason.{Reason}

-- the paper's sweep with another fragment, query and table
abbrev pub sweep_with : (kmer window length : ℕ) (query hashes starts ends : List ℕ) (from to : ℕ) (identities uppers : List Float) (minimum : Float) → Sweep
sweep_with kmer window length query hashes starts ends from to identities uppers minimum = record {
  query = query;
  hashes = hashes;
  starts = starts;
  ends = ends;
  settings = record { kmer = kmer; length = length };
  window = window;
  range = record { start = from; end = to };
  identities = identities;
  uppers = uppers;
  minimum = minimum;
}

-- the paper's query, items' hashes and positions, and table
abbrev pub query_b : List ℕ
query_b = 20 ∷ 40 ∷ []

abbrev pub hashes_b : List ℕ
hashes_b = 20 ∷ 30 ∷ 40 ∷ 20 ∷ 50 ∷ []

abbrev pub starts_b : List ℕ
starts_b = 0 ∷ 4 ∷ 8 ∷ 12 ∷ 20 ∷ []

abbrev pub table_b : List Float
table_b = f0 ∷ f50 ∷ f100 ∷ []

-- case B2 with another k-mer, window and length; with another query; with another table and minimum identity
abbrev pub fragment_b : ℕ → ℕ → ℕ → Sweep
fragment_b kmer window length = sweep_with kmer window length query_b hashes_b starts_b [] 0 11 table_b table_b f0

abbrev pub queried_b : List ℕ → Sweep
queried_b query = sweep_with 3 2 10 query hashes_b starts_b [] 0 11 table_b table_b f0

abbrev pub judged_b : List Float → List Float → Float → Sweep
judged_b identities uppers minimum = sweep_with 3 2 10 query_b hashes_b starts_b [] 0 11 identities uppers minimum

-- from the first stop both distances are 4, so a tie moves both sides
abbrev pub case_tie : Sweep
case_tie = sweep_of (30 ∷ 40 ∷ 20 ∷ 50 ∷ []) (0 ∷ 4 ∷ 10 ∷ 20 ∷ []) [] 0 11

-- inserts and deletes at the pivot, above it and below it; a second insert, and a delete at count 0
abbrev pub script_edge : Script
script_edge = record {
  query = 20 ∷ 40 ∷ [];
  coords = 10 ∷ 20 ∷ 40 ∷ [];
  indexes = 2 ∷ 1 ∷ 0 ∷ 2 ∷ 0 ∷ 1 ∷ 1 ∷ 1 ∷ 1 ∷ 1 ∷ 2 ∷ 2 ∷ [];
  kinds = 1 ∷ 1 ∷ 1 ∷ 0 ∷ 0 ∷ 0 ∷ 0 ∷ 1 ∷ 1 ∷ 0 ∷ 1 ∷ 0 ∷ [];
}

-- 2/1, 2/2, 1/1, 1/1, 2/1, 2/0, 2/0, 2/1, 2/1, 2/1, 2/2, 2/1
abbrev pub looks_edge : List ℕ
looks_edge = 2 ∷ 1 ∷ 2 ∷ 2 ∷ 1 ∷ 1 ∷ 1 ∷ 1 ∷ 2 ∷ 1 ∷ 2 ∷ 0 ∷ 2 ∷ 0 ∷ 2 ∷ 1 ∷ 2 ∷ 1 ∷ 2 ∷ 1 ∷ 2 ∷ 2 ∷ 2 ∷ 1 ∷ []

-- the only start is range end, and the last item lies past it by W or more
abbrev pub case_last : Sweep
case_last = sweep_with 3 2 16 query_b (20 ∷ 50 ∷ []) (5 ∷ 20 ∷ []) [] 0 5 table_b table_b f0

-- the last item lies exactly W past the only start
abbrev pub case_beyond : Sweep
case_beyond = sweep_of (20 ∷ 50 ∷ []) (0 ∷ 7 ∷ []) [] 0 0

-- one interval 20[from,to)
abbrev pub case_one : (from to range_start range_end : ℕ) → Sweep
case_one from to range_start range_end = sweep_of (20 ∷ []) (from ∷ []) (to ∷ []) range_start range_end

-- 20[0,5), 20[5,9), range 3..7: a delete, then an insert, of one hash at one position
abbrev pub case_meet : Sweep
case_meet = sweep_of (20 ∷ 20 ∷ []) (0 ∷ 5 ∷ []) (5 ∷ 9 ∷ []) 3 7

-- 40[0,9), 20[5,9), 30[5,9), range 3..7: between the two inserts at 5 the score is 2, and no position has it
abbrev pub case_between : Sweep
case_between = sweep_of (40 ∷ 20 ∷ 30 ∷ []) (0 ∷ 5 ∷ 5 ∷ []) (9 ∷ 9 ∷ 9 ∷ []) 3 7

-- 150, above every upper bound
abbrev pub f150 : Float
f150 = of_bits binary64 0x4062c00000000000

-- B2 from 1 on, with two equal positions at 0, which are not local
abbrev pub case_elsewhere : Sweep
case_elsewhere = sweep_of hashes_b (0 ∷ 0 ∷ 8 ∷ 12 ∷ 20 ∷ []) [] 1 11

-- E with an empty interval 20[0,0), which is not taken
abbrev pub case_untaken : Sweep
case_untaken = sweep_of (20 ∷ 30 ∷ []) (0 ∷ 2 ∷ []) (0 ∷ 9 ∷ []) 3 5

-- Demand 3's premises hold of B1, B2, a tie, and equal positions that are not local;
pub minimizer_inside : map minimizer_premises (case_b 10 ∷ case_b 11 ∷ case_tie ∷ case_elsewhere ∷ []) ≡ true ∷ true ∷ true ∷ true ∷ []
unfolding computes
minimizer_inside = refl

-- not of C, of W below 1, of no query hash;
pub minimizer_outside : map minimizer_premises (case_c ∷ fragment_b 3 2 3 ∷ queried_b [] ∷ []) ≡ false ∷ false ∷ false ∷ []
unfolding computes
minimizer_outside = refl

-- of D, E, and an empty interval that is not taken;
pub interval_inside : map interval_premises (case_d ∷ case_e ∷ case_untaken ∷ []) ≡ true ∷ true ∷ true ∷ []
unfolding computes
interval_inside = refl

-- not of F and a reversed range, which are none before scoring, nor of G
pub interval_outside : map interval_premises (case_f ∷ case_one 2 9 5 3 ∷ case_g ∷ []) ≡ false ∷ false ∷ false ∷ []
unfolding computes
interval_outside = refl

-- a row of a check: what it says, and what it should say
pub record Judged : Type 0 where
  pub given : Verdict
  pub wanted : Verdict

-- a check that says Fine, and one that refuses
abbrev pub fine : Verdict → Judged
fine v = record { given = v; wanted = Fine }

abbrev pub refuses : Verdict → Reason → ℕ → Judged
refuses v reason place = record { given = v; wanted = refuse reason place }

-- Each check by itself: at its limit, one past it; at its need, one short.
pub checks : List Judged
checks =
    -- the minimizer sweep, 1 to 3
    fine (minimizer_sizes 4096 61440 61440 1 1 1 1) ∷
    fine (minimizer_sizes 0 0 0 0 0 1 1) ∷
    refuses (minimizer_sizes 4097 0 0 1 1 1 1) TooLarge 0 ∷
    refuses (minimizer_sizes 0 61441 61440 1 1 1 1) TooLarge 0 ∷
    refuses (minimizer_sizes 0 61440 61441 1 1 1 1) TooLarge 0 ∷
    refuses (minimizer_sizes 0 1 2 1 2 0 1) BadSetting 0 ∷
    refuses (minimizer_sizes 0 1 2 1 2 1 0) BadSetting 0 ∷
    refuses (minimizer_sizes 0 1 2 1 1 1 1) UnequalLengths 0 ∷
    refuses (minimizer_sizes 0 1 1 1 2 1 1) UnequalLengths 0 ∷
    -- the interval sweep, 1 to 3
    fine (interval_sizes 4096 61440 61440 61440 1 1 1) ∷
    fine (interval_sizes 0 0 0 0 0 0 1) ∷
    refuses (interval_sizes 4097 0 0 0 1 1 1) TooLarge 0 ∷
    refuses (interval_sizes 0 61441 0 0 1 1 1) TooLarge 0 ∷
    refuses (interval_sizes 0 0 61441 0 1 1 1) TooLarge 0 ∷
    refuses (interval_sizes 0 0 0 61441 1 1 0) TooLarge 0 ∷
    refuses (interval_sizes 0 1 2 2 1 1 0) BadSetting 0 ∷
    refuses (interval_sizes 0 1 2 1 1 1 1) UnequalLengths 0 ∷
    refuses (interval_sizes 0 1 1 2 1 1 1) UnequalLengths 0 ∷
    refuses (interval_sizes 0 1 1 1 1 2 1) UnequalLengths 0 ∷
    -- both sweeps, 4 and 5, with the later of two neighbours
    fine (sweep_orders [] []) ∷
    fine (sweep_orders (20 ∷ 40 ∷ []) (0 ∷ 0 ∷ 8 ∷ [])) ∷
    refuses (sweep_orders (20 ∷ 40 ∷ 40 ∷ 30 ∷ []) (1 ∷ 0 ∷ [])) QueryOrder 2 ∷
    refuses (sweep_orders (20 ∷ 10 ∷ []) []) QueryOrder 1 ∷
    refuses (sweep_orders (20 ∷ 40 ∷ []) (0 ∷ 4 ∷ 4 ∷ 3 ∷ [])) ItemOrder 3 ∷
    -- 7, with k+1 entries and with k
    fine (sweep_table 2 3) ∷
    fine (sweep_table 0 1) ∷
    refuses (sweep_table 2 2) ShortTable 0 ∷
    refuses (sweep_table 0 0) ShortTable 0 ∷
    -- 8: 4,097 hashes and items want 65 bit words, and those 2 summary words
    fine (sweep_needs 4097 4097 4097 4097 65 2) ∷
    fine (sweep_needs 4096 4096 4096 4096 64 1) ∷
    fine (sweep_needs 0 0 0 0 0 0) ∷
    refuses (sweep_needs 4097 4096 4097 4097 65 2) ShortBuffer 0 ∷
    refuses (sweep_needs 4097 4097 4096 4097 65 2) ShortBuffer 0 ∷
    refuses (sweep_needs 4097 4097 4097 4096 65 2) ShortBuffer 0 ∷
    refuses (sweep_needs 4097 4097 4097 4097 64 2) ShortBuffer 0 ∷
    refuses (sweep_needs 4097 4097 4097 4097 65 1) ShortBuffer 0 ∷
    fine (keys_need 5 10) ∷
    fine (keys_need 0 0) ∷
    refuses (keys_need 5 9) ShortBuffer 0 ∷
    -- the script: 1 and 3
    fine (script_sizes 4096 65536 65536 65536) ∷
    fine (script_sizes 0 1 0 0) ∷
    refuses (script_sizes 4097 1 0 0) TooLarge 0 ∷
    refuses (script_sizes 1 65537 0 0) TooLarge 0 ∷
    refuses (script_sizes 1 0 0 0) TooLarge 0 ∷
    refuses (script_sizes 1 1 65537 0) TooLarge 0 ∷
    refuses (script_sizes 1 1 0 65537) TooLarge 0 ∷
    refuses (script_sizes 1 1 2 3) UnequalLengths 0 ∷
    -- 4 and 5
    fine (script_orders (20 ∷ 40 ∷ []) (10 ∷ 20 ∷ 40 ∷ [])) ∷
    refuses (script_orders [] (20 ∷ 10 ∷ [])) QueryOrder 0 ∷
    refuses (script_orders (20 ∷ 20 ∷ []) (20 ∷ 10 ∷ [])) QueryOrder 1 ∷
    refuses (script_orders (20 ∷ 40 ∷ []) (10 ∷ 20 ∷ 20 ∷ 15 ∷ [])) ItemOrder 2 ∷
    -- 6: the query, then the steps in order
    fine (script_members (20 ∷ 40 ∷ []) (10 ∷ 20 ∷ 40 ∷ []) (2 ∷ 0 ∷ []) (0 ∷ 1 ∷ [])) ∷
    refuses (script_members (20 ∷ 30 ∷ 40 ∷ []) (10 ∷ 20 ∷ []) (5 ∷ []) (7 ∷ [])) NotMember 1 ∷
    refuses (script_members (20 ∷ []) (10 ∷ 20 ∷ []) (1 ∷ 2 ∷ 0 ∷ []) (1 ∷ 1 ∷ 2 ∷ [])) NotMember 1 ∷
    refuses (script_members (20 ∷ []) (10 ∷ 20 ∷ []) (1 ∷ 0 ∷ 2 ∷ []) (1 ∷ 2 ∷ 1 ∷ [])) NotMember 1 ∷
    -- 8
    fine (script_needs 4097 3 4097 65 2 3 3) ∷
    fine (script_needs 1 0 1 1 1 0 0) ∷
    refuses (script_needs 4097 3 4096 65 2 3 3) ShortBuffer 0 ∷
    refuses (script_needs 4097 3 4097 64 2 3 3) ShortBuffer 0 ∷
    refuses (script_needs 4097 3 4097 65 1 3 3) ShortBuffer 0 ∷
    refuses (script_needs 4097 3 4097 65 2 2 3) ShortBuffer 0 ∷
    refuses (script_needs 4097 3 4097 65 2 3 2) ShortBuffer 0 ∷
    -- the minimizer finder: 1, 2, 3
    fine (minimizer_finder_sizes 61440 61440 4096 2147483647) ∷
    fine (minimizer_finder_sizes 0 0 0 1) ∷
    refuses (minimizer_finder_sizes 61441 0 0 0) TooLarge 0 ∷
    refuses (minimizer_finder_sizes 0 61441 0 0) TooLarge 0 ∷
    refuses (minimizer_finder_sizes 0 0 4097 0) TooLarge 0 ∷
    refuses (minimizer_finder_sizes 0 0 0 0) BadSetting 0 ∷
    refuses (minimizer_finder_sizes 0 0 0 2147483648) BadSetting 0 ∷
    fine (minimizer_finder_lengths 5 5 5) ∷
    refuses (minimizer_finder_lengths 5 4 5) UnequalLengths 0 ∷
    refuses (minimizer_finder_lengths 5 5 4) UnequalLengths 0 ∷
    refuses (minimizer_finder_lengths 5 5 6) UnequalLengths 0 ∷
    -- the interval finder: 1, 2, 3
    fine (interval_finder_sizes 61440 61440 61440 4096 2147483647) ∷
    refuses (interval_finder_sizes 61441 0 0 0 0) TooLarge 0 ∷
    refuses (interval_finder_sizes 0 61441 0 0 0) TooLarge 0 ∷
    refuses (interval_finder_sizes 0 0 61441 0 0) TooLarge 0 ∷
    refuses (interval_finder_sizes 0 0 0 4097 0) TooLarge 0 ∷
    refuses (interval_finder_sizes 0 0 0 0 0) BadSetting 0 ∷
    refuses (interval_finder_sizes 0 0 0 0 2147483648) BadSetting 0 ∷
    fine (interval_finder_lengths 5 5 5 5) ∷
    refuses (interval_finder_lengths 5 4 5 5) UnequalLengths 0 ∷
    refuses (interval_finder_lengths 5 5 4 5) UnequalLengths 0 ∷
    refuses (interval_finder_lengths 5 5 5 4) UnequalLengths 0 ∷
    -- 8
    fine (finder_needs 5 5 5 5 5) ∷
    fine (finder_needs 0 0 0 0 0) ∷
    refuses (finder_needs 5 4 5 5 5) ShortBuffer 0 ∷
    refuses (finder_needs 5 5 4 5 5) ShortBuffer 0 ∷
    refuses (finder_needs 5 5 5 4 5) ShortBuffer 0 ∷
    refuses (finder_needs 5 5 5 5 4) ShortBuffer 0 ∷
    fine (end_keys_need 5 5) ∷
    refuses (end_keys_need 5 4) ShortBuffer 0 ∷
    []

-- every check says so
pub checks_hold : map (λ (r : Judged). r.given) checks ≡ map (λ (r : Judged). r.wanted) checks
unfolding checks computes
checks_hold = refl

-- buffers that meet case B2's needs exactly, and buffers of nothing
abbrev pub exactly : SweepRoom
exactly = record { hashes = 7; counts = 7; coords = 7; words = 1; summary = 1 }

abbrev pub no_room : SweepRoom
no_room = record { hashes = 0; counts = 0; coords = 0; words = 0; summary = 0 }

-- buffers that meet the needs of script A exactly, and buffers of nothing
abbrev pub exactly_a : ScriptRoom
exactly_a = record { counts = 5; words = 1; summary = 1; pivots = 10; shareds = 10 }

abbrev pub no_room_a : ScriptRoom
no_room_a = record { counts = 0; words = 0; summary = 0; pivots = 0; shareds = 0 }

-- a finder of one group, minimum 2, length 10
abbrev pub finder_with : List ℕ → List ℕ → List ℕ → List ℕ → ℕ → ℕ → Finder
finder_with contigs starts ends groups threshold minimum =
    record { contigs = contigs; starts = starts; ends = ends; groups = groups; threshold = threshold; minimum = minimum; length = 10 }

-- buffers for n hits
abbrev pub finder_room : ℕ → FinderRoom
finder_room n = record { keys = n; contigs = n; starts = n; ends = n }

-- a query a hash too long, and not ascending
abbrev pub long_query : List ℕ
long_query = replicate 4097 0

-- Whole calls: each breaks all checks from one number on, and the first in number order is told.
pub calls : List Row
calls =
    -- the minimizer sweep: 1, 2, 3, 4, 5, 7, 8, then answered with needs exactly met
    says (told_sweep (minimizer_call (sweep_with 0 0 10 long_query (20 ∷ []) (4 ∷ 3 ∷ []) [] 0 11 [] (f0 ∷ []) f0) no_room)) (refused 1 0) ∷
    says (told_sweep (minimizer_call (sweep_with 3 0 10 (20 ∷ 20 ∷ []) (20 ∷ []) (4 ∷ 3 ∷ []) [] 0 11 [] (f0 ∷ []) f0) no_room)) (refused 2 0) ∷
    says (told_sweep (minimizer_call (sweep_with 3 2 10 (20 ∷ 20 ∷ []) (20 ∷ []) (4 ∷ 3 ∷ []) [] 0 11 [] [] f0) no_room)) (refused 3 0) ∷
    says (told_sweep (minimizer_call (sweep_with 3 2 10 (20 ∷ 20 ∷ []) (20 ∷ 30 ∷ []) (4 ∷ 3 ∷ []) [] 0 11 [] [] f0) no_room)) (refused 4 1) ∷
    says (told_sweep (minimizer_call (sweep_with 3 2 10 query_b (20 ∷ 30 ∷ []) (4 ∷ 3 ∷ []) [] 0 11 [] [] f0) no_room)) (refused 5 1) ∷
    says (told_sweep (minimizer_call (sweep_with 3 2 10 query_b (20 ∷ 30 ∷ []) (4 ∷ 4 ∷ []) [] 0 11 (f0 ∷ f50 ∷ []) (f0 ∷ f50 ∷ []) f0) no_room)) (refused 7 0) ∷
    says (told_sweep (minimizer_call (case_b 11) no_room)) (refused 8 0) ∷
    says (told_sweep (minimizer_call (case_b 11) (record { hashes = 6; counts = 7; coords = 7; words = 1; summary = 1 }))) (refused 8 0) ∷
    says (told_sweep (minimizer_call (case_b 11) exactly)) (placed 8 17 2 5 4 5 f100) ∷
    -- 7 and 8 also where the answer would be none; and none with nothing lent
    says (told_sweep (minimizer_call (sweep_with 3 2 10 [] [] [] [] 0 11 [] [] f0) no_room)) (refused 7 0) ∷
    says (told_sweep (minimizer_call (sweep_with 3 2 10 [] (20 ∷ []) (0 ∷ []) [] 0 11 (f0 ∷ []) (f0 ∷ []) f0) no_room)) (refused 8 0) ∷
    says (told_sweep (minimizer_call (sweep_with 3 2 10 [] [] [] [] 0 11 (f0 ∷ []) (f0 ∷ []) f0) no_room)) (nothing 0 0 0) ∷
    -- the interval sweep: it takes no window, and its ends are a list; the event keys come last
    says (told_sweep (interval_call (sweep_with 0 0 10 long_query (20 ∷ []) (4 ∷ 3 ∷ []) [] 0 11 [] (f0 ∷ []) f0) no_room 0)) (refused 1 0) ∷
    says (told_sweep (interval_call (sweep_with 0 0 10 (20 ∷ 20 ∷ []) (20 ∷ []) (4 ∷ 3 ∷ []) [] 0 11 [] (f0 ∷ []) f0) no_room 0)) (refused 2 0) ∷
    says (told_sweep (interval_call (sweep_with 3 0 10 (20 ∷ 20 ∷ []) (20 ∷ 30 ∷ []) (4 ∷ 3 ∷ []) (9 ∷ []) 0 11 [] [] f0) no_room 0)) (refused 3 0) ∷
    says (told_sweep (interval_call (sweep_with 3 0 10 (20 ∷ 20 ∷ []) (20 ∷ 30 ∷ []) (4 ∷ 3 ∷ []) (9 ∷ 8 ∷ []) 0 11 [] [] f0) no_room 0)) (refused 4 1) ∷
    says (told_sweep (interval_call (sweep_with 3 0 10 query_b (20 ∷ 30 ∷ []) (4 ∷ 3 ∷ []) (9 ∷ 8 ∷ []) 0 11 [] [] f0) no_room 0)) (refused 5 1) ∷
    says (told_sweep (interval_call (sweep_with 3 0 10 query_b (20 ∷ 30 ∷ []) (3 ∷ 4 ∷ []) (9 ∷ 8 ∷ []) 0 11 [] [] f0) no_room 0)) (refused 7 0) ∷
    says (told_sweep (interval_call case_d (record { hashes = 5; counts = 5; coords = 5; words = 1; summary = 0 }) 6)) (refused 8 0) ∷
    says (told_sweep (interval_call case_d (record { hashes = 5; counts = 5; coords = 5; words = 1; summary = 1 }) 5)) (refused 8 0) ∷
    says (told_sweep (interval_call case_d (record { hashes = 5; counts = 5; coords = 5; words = 1; summary = 1 }) 6)) (placed 3 12 1 9 3 3 f50) ∷
    -- the script: 1, 3, 4, 5, 6, 8, then done; and the empty script
    says (told_script (script_call (record { query = []; coords = []; indexes = 9 ∷ []; kinds = [] }) no_room_a)) (refused 1 0) ∷
    says (told_script (script_call (record { query = []; coords = 40 ∷ 20 ∷ []; indexes = 9 ∷ []; kinds = [] }) no_room_a)) (refused 3 0) ∷
    says (told_script (script_call (record { query = []; coords = 40 ∷ 20 ∷ []; indexes = 9 ∷ []; kinds = 1 ∷ [] }) no_room_a)) (refused 4 0) ∷
    says (told_script (script_call (record { query = 30 ∷ []; coords = 40 ∷ 20 ∷ []; indexes = 9 ∷ []; kinds = 1 ∷ [] }) no_room_a)) (refused 5 1) ∷
    says (told_script (script_call (record { query = 30 ∷ []; coords = 20 ∷ 40 ∷ []; indexes = 9 ∷ []; kinds = 1 ∷ [] }) no_room_a)) (refused 6 0) ∷
    says (told_script (script_call script_a no_room_a)) (refused 8 0) ∷
    says (told_script (script_call script_a exactly_a)) (list (2 ∷ 0 ∷ [])) ∷
    says (told_script (script_call empty_script (record { counts = 5; words = 1; summary = 1; pivots = 0; shareds = 0 }))) (list (3 ∷ 0 ∷ [])) ∷
    -- the minimizer finder: 1, 2, 3, 8, then H listed; and no hit
    says (told_finder (minimizer_finder_call (finder_with (replicate 61441 0) (5 ∷ []) [] (2 ∷ []) 100 0) (finder_room 0))) (refused 1 0) ∷
    says (told_finder (minimizer_finder_call (finder_with (0 ∷ []) (5 ∷ 8 ∷ []) [] (2 ∷ []) 100 0) (finder_room 0))) (refused 2 0) ∷
    says (told_finder (minimizer_finder_call (finder_with (0 ∷ []) (5 ∷ 8 ∷ []) [] (2 ∷ []) 100 2) (finder_room 0))) (refused 3 0) ∷
    says (told_finder (minimizer_finder_call (finder_with (0 ∷ 0 ∷ []) (5 ∷ 8 ∷ []) [] (1 ∷ 2 ∷ []) 100 2) (finder_room 0))) (refused 3 0) ∷
    says (told_finder (minimizer_finder_call (finder_with (0 ∷ 0 ∷ []) (5 ∷ 8 ∷ []) [] (2 ∷ []) 100 2) (finder_room 1))) (refused 8 0) ∷
    says (told_finder (minimizer_finder_call (finder_with (0 ∷ 0 ∷ 0 ∷ []) (15 ∷ 5 ∷ 8 ∷ []) [] (3 ∷ []) 100 2) (finder_room 3))) (list (2 ∷ 3 ∷ [])) ∷
    says (told_finder (minimizer_finder_call (finder_with [] [] [] [] 0 2147483647) (finder_room 0))) (list (0 ∷ 0 ∷ [])) ∷
    -- the interval finder: its ends are a list; the keys of ends come last
    says (told_finder (interval_finder_call (finder_with (0 ∷ 0 ∷ []) (2 ∷ 4 ∷ []) (6 ∷ []) (2 ∷ []) 100 0) (finder_room 0) 0)) (refused 2 0) ∷
    says (told_finder (interval_finder_call (finder_with (0 ∷ 0 ∷ []) (2 ∷ 4 ∷ []) (6 ∷ []) (2 ∷ []) 100 2) (finder_room 0) 0)) (refused 3 0) ∷
    says (told_finder (interval_finder_call (finder_with (0 ∷ 0 ∷ []) (2 ∷ 4 ∷ []) (6 ∷ 8 ∷ []) (2 ∷ []) 100 2) (finder_room 2) 1)) (refused 8 0) ∷
    says (told_finder (interval_finder_call (finder_with (0 ∷ 0 ∷ []) (2 ∷ 4 ∷ []) (6 ∷ 8 ∷ []) (2 ∷ []) 100 2) (finder_room 2) 2)) (list (1 ∷ 2 ∷ [])) ∷
    -- buffers at exit: work and output on answer 0, and both where refused
    says (list (work_left Fine 2 (7 ∷ 8 ∷ 9 ∷ []))) (list (0 ∷ 0 ∷ 9 ∷ [])) ∷
    says (list (output_left Fine (1 ∷ []) (7 ∷ 8 ∷ []))) (list (1 ∷ 8 ∷ [])) ∷
    says (list (work_left (refuse ShortBuffer 0) 2 (7 ∷ 8 ∷ 9 ∷ []))) (list (7 ∷ 8 ∷ 9 ∷ [])) ∷
    says (list (output_left (refuse ShortBuffer 0) (1 ∷ []) (7 ∷ 8 ∷ []))) (list (7 ∷ 8 ∷ [])) ∷
    []

-- every call answers so
pub calls_hold : map (λ (r : Row). r.given) calls ≡ map (λ (r : Row). r.wanted) calls
unfolding calls computes
calls_hold = refl

-- Answers of scripts, sweeps and finders at their edges.
pub answers : List Row
answers =
    -- a script, by looking after each step and by the Rust's moves
    says (list (told_looks (looks script_edge))) (list looks_edge) ∷
    says (list (told_looks (looks_by_moves script_edge))) (list looks_edge) ∷
    -- a tie (no example of the paper has one)
    says (told_sweep (minimizer_answer case_tie)) (placed 4 13 2 3 4 4 f100) ∷
    says (told_sweep (minimizer_by_scoring case_tie)) (placed 4 13 2 3 4 4 f100) ∷
    -- a start at range end, and an item exactly W past a start
    says (told_sweep (minimizer_answer case_last)) (placed 5 20 1 1 3 2 f50) ∷
    says (told_sweep (minimizer_by_scoring case_last)) (placed 5 20 1 1 3 2 f50) ∷
    says (told_sweep (minimizer_answer case_beyond)) (placed 0 9 1 1 3 2 f50) ∷
    says (told_sweep (minimizer_by_scoring case_beyond)) (placed 0 9 1 1 3 2 f50) ∷
    -- none before coordinates are built: W below 1, no query hash, no local item
    says (told_sweep (minimizer_answer (fragment_b 3 2 3))) (nothing 0 0 0) ∷
    says (told_sweep (minimizer_answer (queried_b []))) (nothing 0 0 0) ∷
    says (told_sweep (minimizer_answer (sweep_of hashes_b starts_b [] 21 30))) (nothing 0 0 0) ∷
    -- none after: no stop (a reversed range), nothing shared, upper bound below the minimum identity
    says (told_sweep (minimizer_answer (sweep_of hashes_b starts_b [] 8 2))) (nothing 0 2 1) ∷
    says (told_sweep (minimizer_answer (sweep_of (30 ∷ 30 ∷ 30 ∷ []) (0 ∷ 4 ∷ 20 ∷ []) [] 0 11))) (nothing 2 3 3) ∷
    says (told_sweep (minimizer_answer (judged_b table_b table_b f150))) (nothing 5 4 5) ∷
    -- an upper bound that equals it, an identity below it, a NaN on either side: placed
    says (told_sweep (minimizer_answer (judged_b table_b table_b f100))) (placed 8 17 2 5 4 5 f100) ∷
    says (told_sweep (minimizer_answer (judged_b (f0 ∷ f0 ∷ f50 ∷ []) table_b f100))) (told_done (8 ∷ 17 ∷ 2 ∷ 2 ∷ 5 ∷ 4 ∷ 5 ∷ []) (f50 ∷ f100 ∷ [])) ∷
    says (told_sweep (minimizer_answer (judged_b table_b (f0 ∷ f0 ∷ nan ∷ []) f150))) (told_done (8 ∷ 17 ∷ 2 ∷ 2 ∷ 5 ∷ 4 ∷ 5 ∷ []) (f100 ∷ nan ∷ [])) ∷
    says (told_sweep (minimizer_answer (judged_b table_b table_b nan))) (placed 8 17 2 5 4 5 f100) ∷
    -- intervals. None before coordinates are built: length < k-mer, no query hash, range reversed
    says (told_sweep (interval_answer (sweep_with 3 2 2 query_b (20 ∷ []) (1 ∷ []) (9 ∷ []) 1 5 table_b table_b f0))) (nothing 0 0 0) ∷
    says (told_sweep (interval_answer (sweep_with 3 2 10 [] (20 ∷ []) (1 ∷ []) (9 ∷ []) 1 5 table_b table_b f0))) (nothing 0 0 0) ∷
    says (told_sweep (interval_answer (case_one 0 9 5 1))) (nothing 0 0 0) ∷
    -- none taken: it ends at range start; it starts after range end; K is 8, and it starts before range start − K
    says (told_sweep (interval_answer (case_one 0 5 5 6))) (nothing 0 0 0) ∷
    says (told_sweep (interval_answer (case_one 7 9 5 6))) (nothing 0 0 0) ∷
    says (told_sweep (interval_answer (case_one 0 100 9 10))) (nothing 0 0 0) ∷
    -- it starts at range start − K; at range start; at range end
    says (told_sweep (interval_answer (case_one 0 100 8 10))) (placed 9 18 1 3 2 1 f50) ∷
    says (told_sweep (interval_answer (case_one 5 9 5 6))) (placed 5 14 1 2 2 1 f50) ∷
    says (told_sweep (interval_answer (case_one 6 9 5 6))) (placed 6 15 1 2 2 1 f50) ∷
    -- it ends within the range; at range end. The mean of 4 and 5 is rounded down
    says (told_sweep (interval_answer (case_one 0 6 4 9))) (placed 4 13 1 6 2 1 f50) ∷
    says (told_sweep (interval_by_scoring (case_one 0 6 4 9))) (placed 4 13 1 6 2 1 f50) ∷
    says (told_sweep (interval_answer (case_one 0 6 4 6))) (placed 4 13 1 3 2 1 f50) ∷
    -- events at one position
    says (told_sweep (interval_answer case_meet)) (placed 5 14 1 5 2 2 f50) ∷
    says (told_sweep (interval_by_scoring case_meet)) (placed 5 14 1 5 2 2 f50) ∷
    says (told_sweep (interval_answer case_between)) (placed 5 14 1 5 3 3 f50) ∷
    says (told_sweep (interval_by_scoring case_between)) (placed 5 14 1 5 3 3 f50) ∷
    -- finders: a group as long as the threshold is dropped; threshold 0 keeps none; ranges by contig, then start
    says (list (told_candidates (minimizer_found (finder_with (0 ∷ 0 ∷ 0 ∷ []) (50 ∷ 80 ∷ 9 ∷ []) [] (2 ∷ 1 ∷ []) 2 1)))) (list (0 ∷ 0 ∷ 9 ∷ [])) ∷
    says (list (seed_hits (finder_with (0 ∷ 0 ∷ 0 ∷ []) (50 ∷ 80 ∷ 9 ∷ []) [] (2 ∷ 1 ∷ []) 2 1) ∷ [])) (list (1 ∷ [])) ∷
    says (list (told_candidates (minimizer_found (finder_with (0 ∷ []) (5 ∷ []) [] (1 ∷ []) 0 1)))) (list []) ∷
    says (list (told_candidates (minimizer_found (finder_with (2 ∷ 1 ∷ []) (5 ∷ 90 ∷ []) [] (2 ∷ []) 9 1)))) (list (1 ∷ 81 ∷ 90 ∷ 2 ∷ 0 ∷ 5 ∷ [])) ∷
    -- a run lies in one contig
    says (list (told_candidates (minimizer_found (finder_with (0 ∷ 1 ∷ []) (5 ∷ 8 ∷ []) [] (2 ∷ []) 9 2)))) (list []) ∷
    -- touching intervals join; one that is empty is a seed hit and covers nothing
    says (list (told_candidates (interval_found (finder_with (0 ∷ 0 ∷ []) (2 ∷ 4 ∷ []) (4 ∷ 6 ∷ []) (2 ∷ []) 9 1)))) (list (0 ∷ 2 ∷ 5 ∷ [])) ∷
    says (list (told_candidates (interval_found (finder_with (0 ∷ 0 ∷ []) (5 ∷ 7 ∷ []) (5 ∷ 9 ∷ []) (2 ∷ []) 9 1)))) (list (0 ∷ 7 ∷ 8 ∷ [])) ∷
    says (list (seed_hits (finder_with (0 ∷ 0 ∷ []) (5 ∷ 7 ∷ []) (5 ∷ 9 ∷ []) (2 ∷ []) 9 1) ∷ [])) (list (2 ∷ [])) ∷
    []

-- every answer is so
pub answers_hold : map (λ (r : Row). r.given) answers ≡ map (λ (r : Row). r.wanted) answers
unfolding answers computes
answers_hold = refl
