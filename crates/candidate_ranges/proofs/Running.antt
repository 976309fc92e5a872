-- Runs by the index of their first key, in a list that ascends: those before i are listed or held, and those from i on are still to come. Each run
-- gives one range at most, so there is an entry for each. Assumes nothing.
use mathlib.Core.Path.{◌≡◌, sym, ap, ◌∙◌}
use mathlib.Core.List.{List, [], ◌∷◌, ◌++◌}
use Prim.Native.Nat.{ℕ, ◌+◌, ◌-◌, ◌≤◌, ◌<◌}
use native.Mathlib.Omega.{arith}
use lib.ListN.{length, get_or, drop}
use Rattle.std.specs.Prelude.{None}
use Rattle.base.proofs.Lists.{asc_at}
use Rattle.rules.specs.Finder.{Candidate, join_all, key_contig, key_at, run_range, run_ranges}
use Rattle.rules.proofs.FinderRuns.{runs_from, runs_next, runs_none, run_near}
use Rattle.candidate_ranges.specs.declared.candidates.L1Candidate.{L1Candidate}
use Rattle.candidate_ranges.specs.declared.candidates.CandidateLists.{CandidateLists}
use Rattle.candidate_ranges.specs.declared.candidates.Held.{Held}
use Rattle.candidate_ranges.specs.declared.runs.Runs.{Runs}
use Rattle.candidate_ranges.specs.Ranges.{range_of, range_in, Room, begun, Pushed, Finished, Holding, Listed}
use Rattle.candidate_ranges.proofs.Listing.{begun_none, begun_pushed, room_within, holding_start, holding_skip, holding_room, holding_pushed, holding_finished}

-- ---- one run

pub range_is : {len a z : ℕ} → a ≤ z → key_contig a ≡ key_contig z → z - a < len → (contig start end at : ℕ) → contig ≡ key_contig a → at ≡ key_at z → start ≡ at + 1 - len → end ≡ key_at a
    → run_range len a z ≡ record { contig = contig; start = start; end = end } ∷ []
range_is {len} {a} {z} order same short contig start end at p t s e =
    let from : key_at z + 1 - len ≡ start = sym (s ∙ ap (λ (x : ℕ). x + 1 - len) t) in
    run_near len a z order same short ∙ (λ i. record { contig = sym p i; start = from i; end = sym e i } ∷ [])

-- ---- before the run at i

pub record Running (r : Runs) (old now : CandidateLists) (h : Held) (i : ℕ) : Type 0 where
  pub holding : Holding 0 (join_all 0 (run_ranges r.fragment r.keys.now (drop r.span r.keys.now))) (runs_from r.fragment r.span r.keys.now i) old now h
  pub few : begun h ≤ i
  pub upto : i ≤ length r.keys.now

pub running_start : (r : Runs) {m : CandidateLists} (h : Held) → h.written ≡ 0 → range_in h.last ≡ None → Running r m m h 0
running_start r {m} h w n =
    let e : 0 + r.span ≡ r.span = omega arith in
    record {
      holding = holding_start h w n (ap (λ (k : ℕ). join_all 0 (run_ranges r.fragment r.keys.now (drop k r.keys.now))) e);
      few = omega (arith, begun_none h n);
      upto = omega arith;
    }

-- a run's keys are in order
pub run_order : (r : Runs) (i : ℕ) → i + r.span < length r.keys.now → get_or r.keys.now i 0 ≤ get_or r.keys.now (i + r.span) 0
run_order r i l = asc_at r.keys.now r.asc i (i + r.span) (omega arith) l

module _ {r : Runs} {old now : CandidateLists} {h : Held} {i : ℕ} (s : Running r old now h i) where
  pub running_room : Room (length r.keys.now) old → Room (begun h) now
  running_room room = room_within (omega (arith, s.few, s.upto)) (holding_room s.holding room)

  module _ (l : i + r.span < length r.keys.now) where
    next : {cs : List Candidate} → run_range r.fragment (get_or r.keys.now i 0) (get_or r.keys.now (i + r.span) 0) ≡ cs → runs_from r.fragment r.span r.keys.now i ≡ cs ++ runs_from r.fragment r.span r.keys.now (i + 1)
    next e = runs_next r.fragment r.span r.keys.now i l ∙ ap (λ (x : List Candidate). x ++ runs_from r.fragment r.span r.keys.now (i + 1)) e

    pub running_skip : run_range r.fragment (get_or r.keys.now i 0) (get_or r.keys.now (i + r.span) 0) ≡ [] → Running r old now h (i + 1)
    running_skip e = record { holding = holding_skip s.holding (next e); few = omega (arith, s.few); upto = omega arith }

    pub running_push : (c : L1Candidate) → run_range r.fragment (get_or r.keys.now i 0) (get_or r.keys.now (i + r.span) 0) ≡ range_of c ∷ [] → {new : CandidateLists} {h' : Held}
        → Pushed 0 h (range_of c) now new h' → Room (length r.keys.now) old → Running r old new h' (i + 1)
    running_push c e x room = record {
      holding = holding_pushed (holding_skip s.holding (next e)) x (running_room room);
      few = omega (arith, s.few, begun_pushed x);
      upto = omega arith;
    }

  pub running_end : length r.keys.now ≤ i + r.span → Room (length r.keys.now) old → {new : CandidateLists} {n : ℕ} → Finished h now new n
      → Listed (join_all 0 (run_ranges r.fragment r.keys.now (drop r.span r.keys.now))) old new n × (n ≤ length r.keys.now)
  running_end l room x =
      let end = holding_finished (holding_skip s.holding (runs_none r.fragment r.span r.keys.now i l)) x (running_room room) in
      (end.0, omega (arith, end.1, s.few, s.upto))
