-- The whole minimizer finder: the keys at the front are the rules' kept hits in order, so their runs are the rules' runs; with the keys cleared that is the
-- promise of the call. Assumes nothing.
use mathlib.Core.Path.{◌≡◌, refl, sym, ap, ◌∙◌, subst}
use mathlib.Core.List.{List, ◌++◌, map}
use Prim.Native.Nat.{ℕ, ◌-◌, ◌≤◌}
use native.Mathlib.Omega.{arith}
use lib.ListN.{length, take, drop, replicate}
use Rattle.std.specs.Prelude.{Ok, Err}
use Rattle.base.specs.Answers.{FinderAnswer, listed}
use Rattle.base.specs.Buffers.{over}
use Rattle.base.specs.Lists.{Asc}
use Rattle.base.specs.Sort.{sort_of}
use Rattle.base.specs.Verdicts.{Verdict, Fine}
use Rattle.base.specs.declared.Finding.{Finding}
use Rattle.base.specs.declared.Refusal.{Refusal}
use Rattle.base.proofs.Sort.{asc_sort, length_sort}
use Rattle.keys.specs.Lists.{Fronted}
use Rattle.rules.specs.Limits.{item_limit}
use Rattle.rules.specs.Finder.{Finder, Candidate, seed_hits, kept, keys_of, hit_keys, run_ranges, join_all, minimizer_found}
use Rattle.rules.specs.Refusals.{minimizer_finder_verdict, minimizer_finder_call, finder_answer_of, work_left, output_left}
use Rattle.rules.specs.Told.{told_finder}
use Rattle.rules.specs.Calls.{FinderLent, FinderLeft, MinimizerFinderPromise, finder_room_of}
use Rattle.rules.proofs.FinderKept.{keys_length, kept-length}
use Rattle.candidate_hits.specs.declared.Hits.{Hits}
use Rattle.candidate_hits.proofs.Gathering.{fronted_take, fronted_within}
use Rattle.candidate_ranges.specs.declared.candidates.CandidateLists.{CandidateLists}
use Rattle.candidate_ranges.specs.Ranges.{Room, Listed}
use Rattle.candidate_ranges.proofs.Listing.{room_within}
use Rattle.candidate_window.specs.Given.{asked_of, lent_of}
use Rattle.candidate_window.specs.Work.{Worked}

-- ---- the keys at the front, which are the kept hits in order

abbrev sorted : Hits → List ℕ
sorted h = sort_of (kept h.threshold h.groups.now (keys_of h.contigs.now h.positions.now))

module _ (h : Hits) {entry now : List ℕ} {n : ℕ} (g : Fronted (sort_of (kept h.threshold h.groups.now (keys_of h.contigs.now h.positions.now))) entry now n) (same : length now ≡ length entry) (exact : length entry ≡ length h.contigs.now) where
  front : take n now ≡ sorted h
  front = fronted_take g

  pub work_few : n ≤ length h.contigs.now
  work_few = omega (arith, fronted_within g same, same, exact)

  front_long : length (take n now) ≡ n
  front_long = ap length front ∙ sym g.many

  pub work_asc : Asc (take n now)
  work_asc = subst Asc (sym front) (asc_sort (kept h.threshold h.groups.now (keys_of h.contigs.now h.positions.now)))

  pub work_long : length (take n now) ≤ item_limit
  work_long = omega (arith, front_long, work_few, h.few)

  pub work_room : {m : CandidateLists} → Room (length h.contigs.now) m → Room (length (take n now)) m
  work_room r = room_within (omega (arith, front_long, work_few)) r

  pub work_done : (minimum len : ℕ) {old new : CandidateLists} (count : ℕ) → Listed (join_all 0 (run_ranges len (take n now) (drop (minimum - 1) (take n now)))) old new count
      → Worked (asked_of h minimum len) (minimizer_found (asked_of h minimum len)) old new (record { count = count; hits = n })
  unfolding minimizer_found hit_keys seed_hits
  work_done minimum len {old} {new} count l = record {
    listed = subst (λ (x : List ℕ). Listed (join_all 0 (run_ranges len x (drop (minimum - 1) x))) old new count) front l;
    hits =
        g.many ∙ length_sort (kept h.threshold h.groups.now (keys_of h.contigs.now h.positions.now)) ∙
        kept-length h.threshold h.groups.now (keys_of h.contigs.now h.positions.now) (omega (arith, h.all, keys_length h.contigs.now h.positions.now h.parallel));
  }

-- ---- the promise

module _ (f : Finder) (before : FinderLent) where
  -- by the verdict: the answer, and what is left
  promised : (v : Verdict) → minimizer_finder_verdict f (finder_room_of before) ≡ v → (r : FinderAnswer) (after : FinderLent)
      → told_finder r ≡ told_finder (finder_answer_of v (seed_hits f) (minimizer_found f)) → FinderLeft v (length f.contigs) (minimizer_found f) before after
      → MinimizerFinderPromise f r before after
  unfolding minimizer_finder_call
  promised v e r after told left = record {
    answer = told ∙ ap (λ (w : Verdict). told_finder (finder_answer_of w (seed_hits f) (minimizer_found f))) (sym e);
    left = subst (λ (w : Verdict). FinderLeft w (length f.contigs) (minimizer_found f) before after) (sym e) left;
  }

  pub promise_refused : (x : Refusal) → minimizer_finder_verdict f (finder_room_of before) ≡ Err x → MinimizerFinderPromise f (Err x) before before
  unfolding finder_answer_of work_left output_left
  promise_refused x e = promised (Err x) e (Err x) before refl (record { keys = refl; contigs = refl; starts = refl; ends = refl })

  -- the needed part of the keys was cleared, and the rest is untouched
  pub promise_done : minimizer_finder_verdict f (finder_room_of before) ≡ Fine → {old new : CandidateLists} {r : Finding} → Worked f (minimizer_found f) old new r
      → old.contigs.now ≡ before.contigs → old.starts.now ≡ before.starts → old.ends.now ≡ before.ends → (keys cs ss es : List ℕ) → keys ≡ replicate (length f.contigs) 0
      → cs ≡ new.contigs.now → ss ≡ new.starts.now → es ≡ new.ends.now → MinimizerFinderPromise f (Ok r) before (lent_of (keys ++ drop (length f.contigs) before.keys) cs ss es)
  unfolding finder_answer_of work_left output_left
  promise_done e {old} {new} {r} w oc os oe keys cs ss es clear nc ns ne =
      promised Fine e (Ok r) _
      (ap (λ (k : ℕ). told_finder (listed k r.hits)) w.listed.many ∙ ap (λ (k : ℕ). told_finder (listed (length (minimizer_found f)) k)) w.hits)
      (record {
        keys = ap (λ (x : List ℕ). x ++ drop (length f.contigs) before.keys) clear;
        contigs = nc ∙ w.listed.contigs ∙ ap (over (map (λ (c : Candidate). c.contig) (minimizer_found f))) oc;
        starts = ns ∙ w.listed.starts ∙ ap (over (map (λ (c : Candidate). c.start) (minimizer_found f))) os;
        ends = ne ∙ w.listed.ends ∙ ap (over (map (λ (c : Candidate). c.end) (minimizer_found f))) oe;
      })
