-- The whole interval finder: the keys at the fronts are those of the rules' kept intervals, in order, so what they cover is what the rules' events cover; with
-- the keys cleared that is the promise of the call. Assumes nothing.
use mathlib.Core.Path.{◌≡◌, refl, sym, ap, ◌∙◌, subst}
use mathlib.Core.Bool.{Bool, true, false}
use mathlib.Core.List.{List, [], ◌∷◌, ◌++◌, map}
use Prim.Native.Nat.{ℕ, ◌≤◌}
use native.Mathlib.Omega.{arith}
use lib.Dec.{ltb}
use lib.ListN.{length, take, drop, replicate, length-append, length-take, length-drop}
use lib.Seq.{length-take-le}
use Rattle.std.specs.Prelude.{Ok, Err}
use Rattle.base.specs.Answers.{FinderAnswer, listed}
use Rattle.base.specs.Buffers.{over}
use Rattle.base.specs.Pick.{pick}
use Rattle.base.specs.Sort.{sort_of}
use Rattle.base.specs.Verdicts.{Verdict, Fine}
use Rattle.base.specs.declared.Finding.{Finding}
use Rattle.base.specs.declared.Refusal.{Refusal}
use Rattle.rules.specs.Finder.{Finder, Candidate, seed_hits, kept, hit_events, covered, join_all, interval_found}
use Rattle.rules.specs.Refusals.{interval_finder_verdict, interval_finder_call, finder_answer_of, work_left, output_left}
use Rattle.rules.specs.Told.{told_finder}
use Rattle.rules.specs.Calls.{FinderLent, FinderLeft, IntervalFinderPromise, finder_room_of}
use Rattle.rules.proofs.FinderKept.{kept-length}
use Rattle.candidate_ranges.specs.declared.candidates.CandidateLists.{CandidateLists}
use Rattle.candidate_ranges.specs.Ranges.{Room, Listed}
use Rattle.candidate_ranges.proofs.Listing.{room_within}
use Rattle.candidate_window.specs.Given.{lent_of}
use Rattle.candidate_window.specs.Work.{Worked}
use Rattle.interval_cover.specs.Intervals.{Intervals}
use Rattle.interval_cover.specs.Cover.{events_of}
use Rattle.interval_hits.specs.declared.IntervalHits.{IntervalHits}
use Rattle.interval_hits.specs.declared.Kept.{Kept}
use Rattle.interval_hits.specs.Keys.{Hit, open_of, close_of}
use Rattle.interval_hits.specs.Hits.{all_hits, kept_intervals, Gathered}
use Rattle.interval_hits.proofs.Gathering.{hits_length}
use Rattle.candidate_intervals.specs.Given.{asked_of}
use Rattle.candidate_intervals.proofs.Balance.{intervals_balanced, intervals_good, events_of_lem}

-- no more hits are kept than there are
kept_few : (threshold : ℕ) (groups : List ℕ) (hits : List Hit) → length (kept threshold groups hits) ≤ length hits
unfolding kept pick
kept_few threshold [] hits = omega arith
kept_few threshold (g ∷ gs) hits = one (ltb g threshold) (kept_few threshold gs (drop g hits))
  where
    one : (t : Bool) → length (kept threshold gs (drop g hits)) ≤ length (drop g hits) → length (pick t (take g hits) [] ++ kept threshold gs (drop g hits)) ≤ length hits
    one true h = omega (arith, length-append (take g hits) (kept threshold gs (drop g hits)), length-take g hits, length-drop g hits)
    one false h = omega (arith, length-drop g hits)

-- ---- the keys at the fronts

module _ {h : IntervalHits} {opens closes : List ℕ} {r : Kept} (g : Gathered h opens closes r) (exact : length opens ≡ length h.contigs.now) where
  hits_long : length (all_hits h) ≡ length h.contigs.now
  hits_long = hits_length h.contigs.now h.starts.now h.ends.now h.same_starts h.same_ends

  front_long : length (take r.intervals opens) ≡ r.intervals
  front_long = length-take-le r.intervals opens g.opens_room

  pub work_few : (r.intervals ≤ length h.contigs.now) × (r.hits ≤ length h.contigs.now)
  work_few = (omega (arith, g.opens_room, exact), omega (arith, g.hits_is, kept_few h.threshold h.groups.now (all_hits h), hits_long))

  pub work_room : {m : CandidateLists} → Room (length h.contigs.now) m → Room (length (take r.intervals opens)) m
  work_room w = room_within (omega (arith, front_long, work_few)) w

  pub work_intervals : Intervals (take r.intervals opens) (take r.intervals closes)
  work_intervals =
      subst (λ (x : List ℕ). Intervals (take r.intervals opens) x) (sym g.closed)
      (subst (λ (x : List ℕ). Intervals x (sort_of (map close_of (kept_intervals h)))) (sym g.opened)
      (intervals_balanced (kept_intervals h) (intervals_good h.threshold h.groups.now h.contigs.now h.starts.now h.ends.now (λ i l. h.near i)) (omega (arith, g.many, work_few, h.few))))

  pub work_done : (minimum : ℕ) {before after : CandidateLists} (count : ℕ) → Listed (join_all 1 (covered minimum (events_of (take r.intervals opens) (take r.intervals closes)))) before after count
      → Worked (asked_of h minimum) (interval_found (asked_of h minimum)) before after (record { count = count; hits = r.hits })
  unfolding interval_found seed_hits
  work_done minimum {before} {after} count l =
      let f = asked_of h minimum in
      let events : events_of (take r.intervals opens) (take r.intervals closes) ≡ hit_events (asked_of h minimum) =
      ap (λ (x : List ℕ). events_of x (take r.intervals closes)) g.opened ∙ ap (events_of (sort_of (map open_of (kept_intervals h)))) g.closed ∙ events_of_lem f in
      record {
        listed = subst (λ (x : List ℕ). Listed (join_all 1 (covered minimum x)) before after count) events l;
        hits = g.hits_is ∙ kept-length h.threshold h.groups.now (all_hits h) (omega (arith, h.all, hits_long));
      }

-- ---- the promise

module _ (f : Finder) (before : FinderLent) (closes : List ℕ) where
  -- by the verdict: the answer, and what is left
  promised : (v : Verdict) → interval_finder_verdict f (finder_room_of before) (length closes) ≡ v → (r : FinderAnswer) (after : FinderLent) (closes' : List ℕ)
      → told_finder r ≡ told_finder (finder_answer_of v (seed_hits f) (interval_found f)) → FinderLeft v (length f.contigs) (interval_found f) before after
      → closes' ≡ work_left v (length f.contigs) closes → IntervalFinderPromise f r before after closes closes'
  unfolding interval_finder_call
  promised v e r after closes' told left last = record {
    answer = told ∙ ap (λ (w : Verdict). told_finder (finder_answer_of w (seed_hits f) (interval_found f))) (sym e);
    left = subst (λ (w : Verdict). FinderLeft w (length f.contigs) (interval_found f) before after) (sym e) left;
    end_keys_left = last ∙ ap (λ (w : Verdict). work_left w (length f.contigs) closes) (sym e);
  }

  pub promise_refused : (x : Refusal) → interval_finder_verdict f (finder_room_of before) (length closes) ≡ Err x → IntervalFinderPromise f (Err x) before before closes closes
  unfolding finder_answer_of work_left output_left
  promise_refused x e = promised (Err x) e (Err x) before closes refl (record { keys = refl; contigs = refl; starts = refl; ends = refl }) refl

  -- the needed part of the keys was cleared, and the rest is untouched
  pub promise_done : interval_finder_verdict f (finder_room_of before) (length closes) ≡ Fine → {old new : CandidateLists} {r : Finding} → Worked f (interval_found f) old new r
      → old.contigs.now ≡ before.contigs → old.starts.now ≡ before.starts → old.ends.now ≡ before.ends → (opens ends cs ss es : List ℕ) → opens ≡ replicate (length f.contigs) 0
      → ends ≡ replicate (length f.contigs) 0 → cs ≡ new.contigs.now → ss ≡ new.starts.now → es ≡ new.ends.now
      → IntervalFinderPromise f (Ok r) before (lent_of (opens ++ drop (length f.contigs) before.keys) cs ss es) closes (ends ++ drop (length f.contigs) closes)
  unfolding finder_answer_of work_left output_left
  promise_done e {old} {new} {r} w oc os oe opens ends cs ss es open_clear end_clear nc ns ne =
      promised Fine e (Ok r) _ _
      (ap (λ (k : ℕ). told_finder (listed k r.hits)) w.listed.many ∙ ap (λ (k : ℕ). told_finder (listed (length (interval_found f)) k)) w.hits)
      (record {
        keys = ap (λ (x : List ℕ). x ++ drop (length f.contigs) before.keys) open_clear;
        contigs = nc ∙ w.listed.contigs ∙ ap (over (map (λ (c : Candidate). c.contig) (interval_found f))) oc;
        starts = ns ∙ w.listed.starts ∙ ap (over (map (λ (c : Candidate). c.start) (interval_found f))) os;
        ends = ne ∙ w.listed.ends ∙ ap (over (map (λ (c : Candidate). c.end) (interval_found f))) oe;
      })
      (ap (λ (x : List ℕ). x ++ drop (length f.contigs) closes) end_clear)
