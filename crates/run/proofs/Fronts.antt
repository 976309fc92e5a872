-- The job at the fronts of the filled lists is the job of the rules: each list holds the job's entries at its front, and the parallel ones are equally long. Assumes nothing.
use Prim.Native.Nat.{ℕ, ◌≤◌}
use mathlib.Core.Path.{◌≡◌, refl, sym, ap, ◌∙◌}
use mathlib.Core.Bool.{Bool, true, false}
use mathlib.Core.List.{List, [], map}
use native.Mathlib.Omega.{arith}
use lib.Dec.{eqb}
use lib.Ieee.{Float}
use lib.ListN.{length, take, drop, length-map}
use lib.Seq.{take_at}
use Rattle.base.specs.Pick.{pick}
use Rattle.base.specs.Buffers.{over}
use Rattle.base.specs.declared.Settings.{Settings}
use Rattle.base.specs.declared.Range.{Range}
use Rattle.base.proofs.Buffers.{length_over}
use Rattle.rules.specs.Limits.{job_query_limit, job_item_limit, job_estimate_limit, item_size, interval_size, estimate_size, items_tag, estimates_tag, minimizer_mode}
use Rattle.rules.specs.Sweep.{Sweep}
use Rattle.rules.specs.Job.{Field, Job, joined_data, mode_of, units, whole, job_of, read}
use Rattle.rules.specs.Lines.{answer_lines, job_answer}
use Rattle.job.specs.Read.{decoded, decoded_of, Lists, filled}
use Rattle.job.specs.Units.{fields_in, item_unit, Accepted}
use Rattle.job.specs.declared.fill.Asked.{Asked}
use Rattle.job.specs.declared.fronts.Job as code
use Rattle.job_fields.specs.Mode.{mode_at}
use Rattle.job_fields.specs.declared.mode.Mode.TheVariants.{Minimizer, Interval}
use Rattle.job.proofs.Accepted.{accepted, all_fields}
use Rattle.job.proofs.Decoding.{query_count, items_joined, items_filled, estimates_filled}
use Rattle.job_fields.proofs.Picks.{pick_yes, pick_no}
use Rattle.base.specs.Answers.{SweepAnswer}
use Rattle.lines.specs.Written.{told, lines_by}
use Rattle.lines.proofs.Writing.{lines_are}
use Rattle.job_answer.specs.Mapped.{points_of, spans_of, minimizer_done, interval_done, answer_in}
use Rattle.job_answer.proofs.Window.{windowed, window_unseen}
use Rattle.run.specs.Held.{Held, Fronts}

-- ---- how long a job's lists are

-- the parallel lists of a job are equally long; in minimizer mode there are no ends
pub record Parallel (j : Job) : Type 0 where
  pub starts_are : length j.sweep.starts ≡ length j.sweep.hashes
  pub no_ends : eqb j.mode minimizer_mode ≡ true → j.sweep.ends ≡ []
  pub ends_are : eqb j.mode minimizer_mode ≡ false → length j.sweep.ends ≡ length j.sweep.hashes
  pub identities_are : length j.sweep.identities ≡ length j.identity_bits
  pub uppers_are : length j.sweep.uppers ≡ length j.identity_bits
  pub upper_bits_are : length j.upper_bits ≡ length j.identity_bits

same_length : {A B C : Type 0} (xs : List C) (f : C → A) (g : C → B) → length (map f xs) ≡ length (map g xs)
same_length xs f g = length-map xs f ∙ sym (length-map xs g)

pub parallel : (seen : List Field) → Parallel (job_of seen)
unfolding job_of
parallel seen =
    let mode = mode_of seen in
    let items = units (pick (eqb mode minimizer_mode) item_size interval_size) (joined_data items_tag seen) in
    let pairs = units estimate_size (joined_data estimates_tag seen) in
    record {
      starts_are = same_length items _ _;
      no_ends = λ e. pick_yes _ _ _ e;
      ends_are = λ e. ap length (pick_no _ _ _ e) ∙ same_length items _ _;
      identities_are = same_length pairs _ _;
      uppers_are = same_length pairs _ _;
      upper_bits_are = same_length pairs _ _;
    }

-- and within the program's limits
pub record Within (j : Job) : Type 0 where
  pub few_hashes : length j.sweep.query ≤ job_query_limit
  pub few_items : length j.sweep.hashes ≤ job_item_limit
  pub few_estimates : length j.identity_bits ≤ job_estimate_limit

decoded_within : (bytes : List ℕ) → Accepted bytes → Within (decoded bytes)
decoded_within bytes a =
    let u = item_unit (mode_of (fields_in bytes)) in
    let items = items_filled bytes a u refl _ refl {hashes = []} {starts = []} {ends = []} refl refl refl refl in
    let estimates = estimates_filled bytes a _ refl {is = []} {us = []} {ib = []} {ub = []} refl refl refl refl refl in
    record {
      few_hashes = omega (arith, query_count bytes a _ refl, a.query.few);
      few_items = omega (arith, items.count, (items_joined bytes a u refl).few);
      few_estimates = omega (arith, estimates.count, a.estimates.few);
    }

pub within : (bytes : List ℕ) (seen : List Field) → read bytes ≡ whole seen → Within (job_of seen)
unfolding decoded
within bytes seen e = rw (all_fields bytes seen e) (decoded_within bytes (accepted bytes seen e))

-- ---- the fronts

-- lists of the program's limits
pub record Sized (l : Lists) : Type 0 where
  pub query_is : length l.query ≡ job_query_limit
  pub hashes_are : length l.hashes ≡ job_item_limit
  pub starts_are : length l.starts ≡ job_item_limit
  pub ends_are : length l.ends ≡ job_item_limit
  pub identities_are : length l.identities ≡ job_estimate_limit
  pub uppers_are : length l.uppers ≡ job_estimate_limit
  pub identity_bits_are : length l.identity_bits ≡ job_estimate_limit
  pub upper_bits_are : length l.upper_bits ≡ job_estimate_limit

front : {A : Type 0} (xs l : List A) (n : ℕ) → length xs ≡ n → take n (over xs l) ≡ xs
front xs l n e = take_at xs (drop (length xs) l) n e

room : {A : Type 0} (xs l : List A) (n m : ℕ) → length xs ≤ m → length l ≡ m → n ≤ m → n ≤ length (over xs l)
room xs l n m h e k = let o : length xs ≤ length l = omega arith in omega (arith, length_over xs l o)

-- a sweep of equal parts
swept : (t : Sweep) (w : ℕ) {q h s e : List ℕ} {st : Settings} {r : Range} {i u : List Float} {m : Float} → q ≡ t.query → h ≡ t.hashes → s ≡ t.starts → e ≡ t.ends
    → st ≡ t.settings → r ≡ t.range → i ≡ t.identities → u ≡ t.uppers → m ≡ t.minimum
    → ◌≡◌ {A = Sweep} (record { query = q; hashes = h; starts = s; ends = e; settings = st; window = w; range = r; identities = i; uppers = u; minimum = m }) (windowed w t)
swept t w a b c d f g x y z = cc

module _ (j : Job) (p : Parallel j) (l : Lists) where
  -- the lists have room for what stands at their fronts
  pub held : Within j → Sized l → Held (decoded_of j) (filled j l)
  unfolding decoded_of filled
  held w s =
      let few = w.few_items in
      let each = w.few_estimates in
      record {
        query_room = room j.sweep.query l.query _ 512 w.few_hashes s.query_is w.few_hashes;
        hash_room = room j.sweep.hashes l.hashes _ 2048 few s.hashes_are few;
        start_room = room j.sweep.starts l.starts _ 2048 (omega (arith, p.starts_are)) s.starts_are few;
        end_room = room j.sweep.ends l.ends _ 2048 few_ends s.ends_are few;
        identity_room = room j.sweep.identities l.identities _ 513 (omega (arith, p.identities_are)) s.identities_are each;
        upper_room = room j.sweep.uppers l.uppers _ 513 (omega (arith, p.uppers_are)) s.uppers_are each;
        identity_bit_room = room j.identity_bits l.identity_bits _ 513 each s.identity_bits_are each;
        upper_bit_room = room j.upper_bits l.upper_bits _ 513 (omega (arith, p.upper_bits_are)) s.upper_bits_are each;
        few_hashes = w.few_hashes;
        few_items = few;
      }
    where
      by_mode : (t : Bool) → eqb j.mode minimizer_mode ≡ t → length j.sweep.ends ≤ 2048
      by_mode true e = let none = ap length (p.no_ends e) in omega (arith, none)
      by_mode false e = omega (arith, p.ends_are e, w.few_items)

      few_ends : length j.sweep.ends ≤ 2048
      few_ends = by_mode (eqb j.mode minimizer_mode) refl

  query_front : take (length j.sweep.query) (over j.sweep.query l.query) ≡ j.sweep.query
  query_front = front j.sweep.query l.query (length j.sweep.query) refl

  hashes_front : take (length j.sweep.hashes) (over j.sweep.hashes l.hashes) ≡ j.sweep.hashes
  hashes_front = front j.sweep.hashes l.hashes (length j.sweep.hashes) refl

  starts_front : take (length j.sweep.hashes) (over j.sweep.starts l.starts) ≡ j.sweep.starts
  starts_front = front j.sweep.starts l.starts (length j.sweep.hashes) p.starts_are

  identities_front : take (length j.identity_bits) (over j.sweep.identities l.identities) ≡ j.sweep.identities
  identities_front = front j.sweep.identities l.identities (length j.identity_bits) p.identities_are

  uppers_front : take (length j.identity_bits) (over j.sweep.uppers l.uppers) ≡ j.sweep.uppers
  uppers_front = front j.sweep.uppers l.uppers (length j.identity_bits) p.uppers_are

  -- a job of these fronts
  module _ (x : code.Job) (f : Fronts (decoded_of j) (filled j l) x) where
    query_is : x.query.now ≡ j.sweep.query
    unfolding decoded_of filled
    query_is = f.query ∙ query_front

    hashes_are : x.hashes.now ≡ j.sweep.hashes
    unfolding decoded_of filled
    hashes_are = f.hashes ∙ hashes_front

    starts_are : x.starts.now ≡ j.sweep.starts
    unfolding decoded_of filled
    starts_are = f.starts ∙ starts_front

    ends_are : eqb j.mode minimizer_mode ≡ false → x.ends.now ≡ j.sweep.ends
    unfolding decoded_of filled
    ends_are e = f.ends ∙ front j.sweep.ends l.ends (length j.sweep.hashes) (p.ends_are e)

    identities_are : x.identities.now ≡ j.sweep.identities
    unfolding decoded_of filled
    identities_are = f.identities ∙ identities_front

    uppers_are : x.uppers.now ≡ j.sweep.uppers
    unfolding decoded_of filled
    uppers_are = f.uppers ∙ uppers_front

    identity_bits_are : x.identity_bits.now ≡ j.identity_bits
    unfolding decoded_of filled
    identity_bits_are = f.identity_bits ∙ front j.identity_bits l.identity_bits _ refl

    upper_bits_are : x.upper_bits.now ≡ j.upper_bits
    unfolding decoded_of filled
    upper_bits_are = f.upper_bits ∙ front j.upper_bits l.upper_bits _ p.upper_bits_are

    settings_are : x.asked.settings ≡ j.sweep.settings
    unfolding decoded_of
    settings_are = ap (λ (a : Asked). a.settings) f.asked

    window_is : x.asked.window ≡ j.sweep.window
    unfolding decoded_of
    window_is = ap (λ (a : Asked). a.window) f.asked

    range_is : x.asked.range ≡ j.sweep.range
    unfolding decoded_of
    range_is = ap (λ (a : Asked). a.range) f.asked

    minimum_is : x.minimum ≡ j.sweep.minimum
    unfolding decoded_of
    minimum_is = f.minimum

    points_are : eqb j.mode minimizer_mode ≡ true → points_of x ≡ j.sweep
    points_are e =
        swept j.sweep x.asked.window query_is hashes_are starts_are (sym (p.no_ends e)) settings_are range_is identities_are uppers_are minimum_is ∙ ap (λ (w : ℕ). windowed w j.sweep) window_is

    spans_are : eqb j.mode minimizer_mode ≡ false → spans_of x ≡ windowed 0 j.sweep
    spans_are e = swept j.sweep 0 query_is hashes_are starts_are (ends_are e) settings_are range_is identities_are uppers_are minimum_is

    -- the answer is the rules',
    answer_front : (t : Bool) → eqb j.mode minimizer_mode ≡ t → answer_in x ≡ job_answer j
    unfolding decoded_of mode_at answer_in job_answer minimizer_done interval_done
    answer_front true e =
        let mode : x.mode ≡ Minimizer = f.mode ∙ pick_yes _ _ _ e in
        rw mode (ap minimizer_done (points_are e) ∙ sym (pick_yes _ _ _ e))
    answer_front false e =
        let mode : x.mode ≡ Interval = f.mode ∙ pick_no _ _ _ e in
        rw mode (ap interval_done (spans_are e) ∙ window_unseen 0 j.sweep ∙ sym (pick_no _ _ _ e))

    -- and so are the lines
    pub lines_front : lines_by x.identity_bits.now x.upper_bits.now (told (answer_in x)) ≡ answer_lines j (job_answer j)
    lines_front =
        let printed = told (answer_in x) in
        ap (λ (b : List ℕ). lines_by b x.upper_bits.now printed) identity_bits_are ∙ ap (λ (b : List ℕ). lines_by j.identity_bits b printed) upper_bits_are ∙
        ap (λ (a : SweepAnswer). lines_by j.identity_bits j.upper_bits (told a)) (answer_front (eqb j.mode minimizer_mode) refl) ∙ lines_are j (job_answer j)
