-- The sweep over starts and ends: what is still to come is what the rules say of the events that are left, at the last key, with i - j active. Where any is
-- active, the next key is of the same contig, since as many starts as ends lie before each contig. A new range is begun only where more intervals are
-- active than before, so no more ranges than starts. Assumes nothing.
use mathlib.Core.Path.{◌≡◌, refl, sym, ap, ◌∙◌, subst}
use mathlib.Core.Logic.{⊎_elim, ◌≢◌}
use mathlib.Core.Bool.{Bool, true, false, ◌&&◌, true≢false}
use mathlib.Core.List.{List, [], ◌∷◌, ◌++◌}
use Prim.Native.Nat.{ℕ, ◌+◌, ◌-◌, ◌*◌, ◌/◌, ◌^◌, ◌≤◌, ◌<◌, min, max}
use native.Mathlib.Nat.{div-add-mod'}
use native.Mathlib.Omega.{arith}
use mir.Val.{bool_byte}
use lib.Dec.{eqb, leb}
use lib.ListN.{length, get_or}
use borrow.Author.Tests.{lt-ltb, le-ltb, eq-eqb, ne_eqb, eqb-true, le-leb}
use Rattle.base.specs.Pick.{pick}
use Rattle.std.specs.Prelude.{Option, Some, None}
use Rattle.std.proofs.lemmas.Bool.{cases_lt, cases_eq}
use Rattle.keys.specs.Lists.{under, below}
use Rattle.rules.specs.Finder.{Candidate, key_contig, key_at, joins, joined, join_all, covered_to, covered_from}
use Rattle.rules.proofs.Score.{cases}
use Rattle.rules.proofs.FinderCovered.{to_below, to_covered, active_start, active_end, covered_none, covered_here, covered_move, covered_start}
use Rattle.candidate_ranges.specs.declared.candidates.CandidateLists.{CandidateLists}
use Rattle.candidate_ranges.specs.declared.candidates.Held.{Held}
use Rattle.candidate_ranges.specs.Ranges.{range_in, begun, Room, Holding}
use Rattle.candidate_ranges.proofs.Listing.{one_or_none, room_within, begun_none, begun_some, begun_holds, holding_start, holding_skip, holding_kept, holding_room, holding_pushed}
use Rattle.interval_cover.specs.declared.Cover.{Cover}
use Rattle.interval_cover.specs.Cover.{events_of, events_left, ranges_of, Between, stretch, Extended, Cut, Sweeping, Swept}
use Rattle.interval_cover.proofs.Cutting.{cut_is, Amid, cut_amid, amid_step, next_key, next_both, next_close, next_open_le, next_close_le, next_is}
use Rattle.interval_cover.proofs.Events.{left_close, left_open, left_none}

-- at a position p, after what is covered up to it was added
pub record Added (c : Cover) (old now : CandidateLists) (held : Held) (p i j : ℕ) : Type 0 where
  pub opened : Cut c.opens.now p i
  pub closed : Cut c.closes.now p j
  pub holding : Holding 1 (ranges_of c.minimum c.opens.now c.closes.now) (covered_from c.minimum (i - j) p (events_left c.opens.now c.closes.now i j)) old now held
  pub few : begun held ≤ i
  pub none : range_in held.last ≡ None → held.written ≡ 0
  pub late : (x : Candidate) (q : ℕ) → range_in held.last ≡ Some x → joins 1 x (stretch p q) ≡ false → i - j < c.minimum

-- then its ends are passed, of which the first is at j₀,
pub record Closing (c : Cover) (p i j₀ j : ℕ) : Type 0 where
  pub opened : Cut c.opens.now p i
  pub closed : Amid c.closes.now p j
  pub grown : j₀ ≤ j
  pub same : covered_from c.minimum (i - j₀) p (events_left c.opens.now c.closes.now i j₀) ≡ covered_from c.minimum (i - j) p (events_left c.opens.now c.closes.now i j)

-- and its starts, of which the first is at i₀
pub record Opening (c : Cover) (p j i₀ i : ℕ) : Type 0 where
  pub opened : Amid c.opens.now p i
  pub closed : Cut c.closes.now (p + 1) j
  pub order : j ≤ i₀
  pub grown : i₀ ≤ i
  pub same : covered_from c.minimum (i₀ - j) p (events_left c.opens.now c.closes.now i₀ j) ≡ covered_from c.minimum (i - j) p (events_left c.opens.now c.closes.now i j)

-- a range that ends where another starts joins it
touches : (prev : Candidate) (p q : ℕ) → prev.contig ≡ key_contig p → key_at p ≤ prev.end + 1 → joins 1 prev (stretch p q) ≡ true
unfolding joins
touches prev p q same l = rw (eq-eqb prev.contig (key_contig p) same, le-leb (key_at p) (prev.end + 1) l)

joined_end : (a b : Candidate) → (joined a b).end ≡ max a.end b.end
unfolding joined
joined_end a b = refl

joined-contig : (a b : Candidate) → (joined a b).contig ≡ a.contig
unfolding joined
joined-contig a b = refl

joins-contig : (a b : Candidate) → joins 1 a b ≡ true → a.contig ≡ b.contig
unfolding joins
joins-contig a b t = eqb-true a.contig b.contig (first (eqb a.contig b.contig) (leb b.start (a.end + 1)) t)
  where
    first : (x y : Bool) → (x && y) ≡ true → x ≡ true
    first true y e = refl
    first false y e = absurd (true≢false (sym e))

-- as many are below a key or more are below the next
below_up : (x : ℕ) (xs : List ℕ) → below x xs ≤ below (x + 1) xs
unfolding below under pick
below_up x [] = omega arith
below_up x (y ∷ ys) =
    ⊎_elim (λ (l : y < x). let t = below_up x ys in rw (lt-ltb y x l, lt-ltb y (x + 1) (omega arith)) (omega arith))
    (λ (l : x ≤ y). let t = below_up x ys in rw (le-ltb y x l) (omega arith)) (cases_lt y x)

-- of two keys in order and of one contig the later is past the start
pub not_first : {key next : ℕ} → Between key next → 0 < key_at next
unfolding key_contig key_at
not_first {key} {next} b = omega (arith, div-add-mod' key (2 ^ 32), div-add-mod' next (2 ^ 32), b.same, b.order)

-- a key is passed where it is at the position
one_if_at : (P : ℕ → Type 0) {x p k r : ℕ} → r ≡ bool_byte (eqb x p) → P k → (x ≡ p → P (k + 1)) → P (k + r)
one_if_at P {x} {p} {k} {r} e stay pass =
    ⊎_elim
    (λ (q : x ≡ p).
    let is : k + 1 ≡ k + r = omega (arith, e ∙ ap bool_byte (eq-eqb x p q)) in
    subst P is (pass q))
    (λ (q : x ≢ p).
    let is : k ≡ k + r = omega (arith, e ∙ ap bool_byte (ne_eqb x p q)) in
    subst P is stay)
    (cases_eq x p)

-- where all starts are passed the next key is an end
pub end_next : (opens closes : List ℕ) (j : ℕ) → get_or closes j 0 ≡ next_key opens closes (length opens) j
end_next opens closes j = sym (next_close opens closes (length opens) j (omega arith))

module _ {cover : Cover} where
  pub sweeping_start : {old : CandidateLists} (held : Held) → held.written ≡ 0 → range_in held.last ≡ None → Sweeping cover old old held 0 0 0
  sweeping_start {old} held w n = record {
    open_upto = omega arith;
    close_upto = omega arith;
    started = λ l. absurd (omega arith);
    fresh = λ e. refl;
    holding = holding_start held w n (ap (join_all 1) (sym (covered_start cover.minimum 0 (events_of cover.opens.now cover.closes.now) cover.some)));
    few = omega (arith, begun_none held n);
    none = λ _. w;
    room = λ p q e m. absurd (omega (arith, cover.some));
  }

  module _ {old now : CandidateLists} {held : Held} {key i j : ℕ} (s : Sweeping cover old now held key i j) where
    -- no more ends than starts are passed
    pub sweeping_order : j ≤ i
    sweeping_order =
        ⊎_elim
        (λ (l : 0 < i).
        let c = s.started l in
        omega (arith, cover.intervals.forward key, below_up key cover.opens.now, cut_is cover.opens.now (key + 1) i cover.intervals.asc_opens c.0, cut_is cover.closes.now (key + 1) j cover.intervals.asc_closes c.1))
        (λ (l : i ≤ 0). omega (arith, s.fresh (omega arith))) (cases_lt 0 i)

    -- where a start is left, so is an end, and the next key is the lesser of them
    pub sweeping_next : {p : ℕ} → i < length cover.opens.now → p ≡ min (get_or cover.opens.now i 0) (get_or cover.closes.now j 0)
        → (j < length cover.closes.now) × (p ≡ next_key cover.opens.now cover.closes.now i j)
    sweeping_next l e = (omega (arith, sweeping_order, cover.intervals.parallel), e ∙ sym (next_both cover.opens.now cover.closes.now i j l))

    -- and all ends
    pub sweeping_end : length cover.closes.now ≤ j → Swept cover old now held
    sweeping_end l =
        let rest : covered_from cover.minimum (i - j) key (events_left cover.opens.now cover.closes.now i j) ≡ [] =
        ap (covered_from cover.minimum (i - j) key) (left_none cover.opens.now cover.closes.now cover.intervals.asc_opens cover.intervals.asc_closes i j (omega (arith, sweeping_order, cover.intervals.parallel)) l) ∙ covered_none cover.minimum (i - j) key in
        record { holding = holding_skip s.holding rest; few = omega (arith, s.few, s.open_upto) }

    -- the held range, and one more, has its place
    pub sweeping_room : Room (length cover.opens.now) old → Room (begun held) now
    sweeping_room r = room_within (omega (arith, s.few, s.open_upto)) (holding_room s.holding r)

    module _ (l : j < length cover.closes.now) (p : ℕ) (e : p ≡ next_key cover.opens.now cover.closes.now i j) where
      under_open : i < length cover.opens.now → p ≤ get_or cover.opens.now i 0
      under_open m = omega (arith, e, next_open_le cover.opens.now cover.closes.now i j m)

      under_close : p ≤ get_or cover.closes.now j 0
      under_close = omega (arith, e, next_close_le cover.opens.now cover.closes.now i j)

      -- the last key is before this one
      pub position_later : 0 < i → key < p
      position_later m =
          let c = s.started m in
          ⊎_elim (λ (q : next_key cover.opens.now cover.closes.now i j ≡ get_or cover.closes.now j 0). omega (arith, e, q, c.1.after l))
          (λ (q : (i < length cover.opens.now) × (next_key cover.opens.now cover.closes.now i j ≡ get_or cover.opens.now i 0)). omega (arith, e, q.1, c.0.after q.0)) (next_is cover.opens.now cover.closes.now i j)

      cut_opens : Cut cover.opens.now p i
      cut_opens = record { upto = s.open_upto; before = λ m. omega (arith, (s.started m).0.before m, position_later m); after = under_open }

      cut_closes : Cut cover.closes.now p j
      cut_closes =
          let some : 0 < j → 0 < i = λ m. omega (arith, sweeping_order) in
          record { upto = s.close_upto; before = λ m. omega (arith, (s.started (some m)).1.before m, position_later (some m)); after = λ _. under_close }

      -- where the contigs differ, none is active
      other_contig : 0 < i → key_contig key ≢ key_contig p → i ≡ j
      unfolding key_contig
      other_contig m d =
          let x = p / 2 ^ 32 * 2 ^ 32 in
          let low : key < x = omega (arith, div-add-mod' key (2 ^ 32), div-add-mod' p (2 ^ 32), position_later m, d) in
          let high : x ≤ p = omega (arith, div-add-mod' p (2 ^ 32)) in
          let c = s.started m in
          let opens_x : below x cover.opens.now ≡ i = cut_is cover.opens.now x i cover.intervals.asc_opens (record { upto = s.open_upto; before = λ n. omega (arith, c.0.before n); after = λ n. omega (arith, under_open n) }) in
          let closes_x : below x cover.closes.now ≡ j = cut_is cover.closes.now x j cover.intervals.asc_closes (record { upto = s.close_upto; before = λ n. omega (arith, c.1.before n); after = λ n. omega (arith, under_close) }) in
          sym opens_x ∙ sym (cover.intervals.within (p / 2 ^ 32)) ∙ closes_x

      same_contig : 0 < i - j → key_contig key ≡ key_contig p
      same_contig m =
          ⊎_elim (λ (q : key_contig key ≡ key_contig p). q) (λ (d : key_contig key ≢ key_contig p). absurd (omega (arith, other_contig (omega arith) d))) (cases_eq (key_contig key) (key_contig p))

      pub position_between : cover.minimum ≤ i - j → Between key p
      position_between m = record { order = position_later (omega (arith, cover.some)); same = same_contig (omega (arith, cover.some)) }

      -- the next event is at this key
      moved : covered_from cover.minimum (i - j) key (events_left cover.opens.now cover.closes.now i j) ≡ covered_to cover.minimum (i - j) key p ++ covered_from cover.minimum (i - j) p (events_left cover.opens.now cover.closes.now i j)
      moved = ⊎_elim at_close at_open (cases_lt (get_or cover.closes.now j 0) (p + 1))
        where
          by : (v : ℕ) (vs : List ℕ) → events_left cover.opens.now cover.closes.now i j ≡ v ∷ vs → v / 2 ≡ p
              → covered_from cover.minimum (i - j) key (events_left cover.opens.now cover.closes.now i j) ≡ covered_to cover.minimum (i - j) key p ++ covered_from cover.minimum (i - j) p (events_left cover.opens.now cover.closes.now i j)
          by v vs a q = rw a (covered_move cover.minimum (i - j) v vs key p q same_contig)

          at_close : get_or cover.closes.now j 0 < p + 1 → covered_from cover.minimum (i - j) key (events_left cover.opens.now cover.closes.now i j) ≡ covered_to cover.minimum (i - j) key p ++ covered_from cover.minimum (i - j) p (events_left cover.opens.now cover.closes.now i j)
          at_close m =
              by _ _ (left_close cover.opens.now cover.closes.now cover.intervals.asc_opens cover.intervals.asc_closes i j l (λ n. omega (arith, under_open n))) (omega (arith, under_close))

          at_open : p + 1 ≤ get_or cover.closes.now j 0 → covered_from cover.minimum (i - j) key (events_left cover.opens.now cover.closes.now i j) ≡ covered_to cover.minimum (i - j) key p ++ covered_from cover.minimum (i - j) p (events_left cover.opens.now cover.closes.now i j)
          at_open m =
              ⊎_elim (λ (q : next_key cover.opens.now cover.closes.now i j ≡ get_or cover.closes.now j 0). absurd (omega (arith, e, q)))
              (λ (q : (i < length cover.opens.now) × (next_key cover.opens.now cover.closes.now i j ≡ get_or cover.opens.now i 0)).
              by _ _ (left_open cover.opens.now cover.closes.now cover.intervals.asc_opens cover.intervals.asc_closes i j q.0 (λ n. omega (arith, e, q.1))) (omega (arith, e, q.1)))
              (next_is cover.opens.now cover.closes.now i j)

      module _ {new : CandidateLists} {r : Held} (x : Extended cover.minimum (i - j) key p held now new r) where
        -- what was added touches the next position
        new_touches : cover.minimum ≤ i - j → (q : ℕ) → joins 1 (stretch key p) (stretch p q) ≡ true
        new_touches m q = let b = position_between m in touches (stretch key p) p q b.same (omega (arith, not_first b))

        joined_touches : (prev : Candidate) → cover.minimum ≤ i - j → joins 1 prev (stretch key p) ≡ true → (q : ℕ) → joins 1 (joined prev (stretch key p)) (stretch p q) ≡ true
        joined_touches prev m t q =
            let b = position_between m in
            touches (joined prev (stretch key p)) p q (joined-contig prev (stretch key p) ∙ joins-contig prev (stretch key p) t ∙ b.same)
            (omega (arith, joined_end prev (stretch key p), not_first b))

        -- the range that is held now, and how many have begun
        held_range : cover.minimum ≤ i - j → (begun r ≤ i) × ((c : Candidate) × (range_in r.last ≡ Some c) × ((q : ℕ) → joins 1 c (stretch p q) ≡ true))
        held_range m =
            let y = x.added m in
            ⊎_elim (λ (e : range_in held.last ≡ None).
            let h = (y.first e).0 in
            (omega (arith, begun_holds h, s.none e, cover.some), (stretch key p, h.last, new_touches m)))
            (λ (e : (c : Candidate) × (range_in held.last ≡ Some c)).
            ⊎_elim (λ (t : joins 1 e.0 (stretch key p) ≡ true).
            let h = (y.join e.0 e.1 t).0 in
            (omega (arith, begun_holds h, begun_some held e.0 e.1, s.few), (joined e.0 (stretch key p), h.last, joined_touches e.0 m t)))
            (λ (t : joins 1 e.0 (stretch key p) ≡ false).
            let h = (y.push e.0 e.1 t).0 in
            (omega (arith, begun_holds h, begun_some held e.0 e.1, s.room e.0 p e.1 m t), (stretch key p, h.last, new_touches m)))
            (cases (joins 1 e.0 (stretch key p))))
            (one_or_none (range_in held.last))

        -- nothing was added, or the stretch
        added_holding : Room (begun held) now → Holding 1 (ranges_of cover.minimum cover.opens.now cover.closes.now) (covered_from cover.minimum (i - j) p (events_left cover.opens.now cover.closes.now i j)) old new r
        added_holding room =
            let h = holding_skip s.holding moved in
            let rest = covered_from cover.minimum (i - j) p (events_left cover.opens.now cover.closes.now i j) in
            ⊎_elim
            (λ (l : i - j < cover.minimum).
            let y = x.nothing l in
            subst (λ (k : Held). Holding 1 (ranges_of cover.minimum cover.opens.now cover.closes.now) rest old new k) (sym y.0)
            (holding_kept (holding_skip h (ap (λ (c : List Candidate). c ++ rest) (to_below cover.minimum (i - j) key p l))) y.1))
            (λ (m : cover.minimum ≤ i - j).
            let b = position_between m in
            holding_pushed (holding_skip h (ap (λ (c : List Candidate). c ++ rest) (to_covered cover.minimum (i - j) key p b.same b.order m))) (x.added m) room)
            (cases_lt (i - j) cover.minimum)

        pub position_added : Room (length cover.opens.now) old → Added cover old new r p i j
        position_added room = record {
          opened = cut_opens;
          closed = cut_closes;
          holding = added_holding (sweeping_room room);
          few =
              ⊎_elim (λ (m : i - j < cover.minimum). omega (arith, ap begun (x.nothing m).0, s.few)) (λ (m : cover.minimum ≤ i - j). (held_range m).0)
              (cases_lt (i - j) cover.minimum);
          none = λ e.
              ⊎_elim (λ (m : i - j < cover.minimum). let y = (x.nothing m).0 in ap (λ (k : Held). k.written) y ∙ s.none (ap (λ (k : Held). range_in k.last) (sym y) ∙ e))
              (λ (m : cover.minimum ≤ i - j).
              let h = (held_range m).1 in
              let both : ◌≡◌ {A = Option Candidate} (Some h.0) None = sym h.1 ∙ e in cc) (cases_lt (i - j) cover.minimum);
          late = λ c q e f.
              ⊎_elim (λ (m : i - j < cover.minimum). m)
              (λ (m : cover.minimum ≤ i - j).
              let h = (held_range m).1 in
              let is : h.0 ≡ c = let both : Some h.0 ≡ Some c = sym h.1 ∙ e in cc in
              absurd (true≢false (sym (h.2 q) ∙ ap (λ (y : Candidate). joins 1 y (stretch p q)) is ∙ f))) (cases_lt (i - j) cover.minimum);
        }

  pub closing_start : {old now : CandidateLists} {held : Held} {p i j : ℕ} → Added cover old now held p i j → Closing cover p i j j
  closing_start a = record { opened = a.opened; closed = cut_amid a.closed; grown = omega arith; same = refl }

  -- an end at the position is passed
  module _ {p i j₀ j : ℕ} (c : Closing cover p i j₀ j) where
    pub closing_step : j < length cover.closes.now → get_or cover.closes.now j 0 ≡ p → Closing cover p i j₀ (j + 1)
    closing_step l e =
        let less : i - j - 1 ≡ i - (j + 1) = omega arith in
        record {
          opened = c.opened;
          closed = amid_step c.closed cover.intervals.asc_closes l e;
          grown = omega (arith, c.grown);
          same =
              c.same ∙ ap (covered_from cover.minimum (i - j) p) (left_close cover.opens.now cover.closes.now cover.intervals.asc_opens cover.intervals.asc_closes i j l (λ n. omega (arith, e, c.opened.after n))) ∙
              covered_here cover.minimum (i - j) (get_or cover.closes.now j 0 * 2) (events_left cover.opens.now cover.closes.now i (j + 1)) p (omega (arith, e)) ∙
              ap (λ (n : ℕ). covered_from cover.minimum n p (events_left cover.opens.now cover.closes.now i (j + 1))) (active_end (get_or cover.closes.now j 0) (i - j) ∙ less);
        }

    closing_then : {k : ℕ} → Closing cover p i j k → Closing cover p i j₀ k
    closing_then d = record { opened = d.opened; closed = d.closed; grown = omega (arith, c.grown, d.grown); same = c.same ∙ d.same }

    -- counted anew from here
    pub closing_here : Closing cover p i j j
    closing_here = record { opened = c.opened; closed = c.closed; grown = omega arith; same = refl }

    -- the next end is passed if it is at the position
    closing_first : {r : ℕ} → j < length cover.closes.now → r ≡ bool_byte (eqb (get_or cover.closes.now j 0) p) → Closing cover p i j₀ (j + r)
    closing_first l e = one_if_at (λ k. Closing cover p i j₀ k) e c (closing_step l)

    pub opening_start : Cut cover.closes.now (p + 1) j → Opening cover p j i i
    opening_start d = record {
      opened = cut_amid c.opened;
      closed = d;
      order = omega (arith, cover.intervals.forward p, cut_is cover.closes.now (p + 1) j cover.intervals.asc_closes d, cut_is cover.opens.now p i cover.intervals.asc_opens c.opened);
      grown = omega arith;
      same = refl;
    }

  -- a start at the position is passed
  module _ {p j i₀ i : ℕ} (o : Opening cover p j i₀ i) where
    pub opening_step : i < length cover.opens.now → get_or cover.opens.now i 0 ≡ p → Opening cover p j i₀ (i + 1)
    opening_step l e =
        let more : i - j + 1 ≡ i + 1 - j = omega (arith, o.order, o.grown) in
        record {
          opened = amid_step o.opened cover.intervals.asc_opens l e;
          closed = o.closed;
          order = o.order;
          grown = omega (arith, o.grown);
          same =
              o.same ∙ ap (covered_from cover.minimum (i - j) p) (left_open cover.opens.now cover.closes.now cover.intervals.asc_opens cover.intervals.asc_closes i j l (λ n. omega (arith, e, o.closed.after n))) ∙
              covered_here cover.minimum (i - j) (get_or cover.opens.now i 0 * 2 + 1) (events_left cover.opens.now cover.closes.now (i + 1) j) p (omega (arith, e)) ∙
              ap (λ (n : ℕ). covered_from cover.minimum n p (events_left cover.opens.now cover.closes.now (i + 1) j)) (active_start (get_or cover.opens.now i 0) (i - j) ∙ more);
        }

    opening_then : {k : ℕ} → Opening cover p j i k → Opening cover p j i₀ k
    opening_then d = record { opened = d.opened; closed = o.closed; order = o.order; grown = omega (arith, o.grown, d.grown); same = o.same ∙ d.same }

    -- counted anew from here
    pub opening_here : Opening cover p j i i
    opening_here = record { opened = o.opened; closed = o.closed; order = omega (arith, o.order, o.grown); grown = omega arith; same = refl }

    -- the next start is passed if it is at the position
    opening_first : {r : ℕ} → i < length cover.opens.now → r ≡ bool_byte (eqb (get_or cover.opens.now i 0) p) → Opening cover p j i₀ (i + r)
    opening_first l e = one_if_at (λ k. Opening cover p j i₀ k) e o (opening_step l)

  -- the first end as a sum, then the others; and then the starts
  pub ends_begun : {old now : CandidateLists} {held : Held} {p i j r : ℕ} → Added cover old now held p i j → j < length cover.closes.now → r ≡ bool_byte (eqb (get_or cover.closes.now j 0) p) → Closing cover p i j (j + r)
  ends_begun a l e = closing_first (closing_start a) l e

  pub ends_passed : {old now : CandidateLists} {held : Held} {p i j r k : ℕ} → Added cover old now held p i j → j < length cover.closes.now → r ≡ bool_byte (eqb (get_or cover.closes.now j 0) p)
      → Closing cover p i (j + r) k → Closing cover p i j k
  ends_passed a l e d = closing_then (ends_begun a l e) d

  pub starts_begun : {p i j j₀ r : ℕ} → Closing cover p i j₀ j → Cut cover.closes.now (p + 1) j → i < length cover.opens.now → r ≡ bool_byte (eqb (get_or cover.opens.now i 0) p) → Opening cover p j i (i + r)
  starts_begun c d l e = opening_first (opening_start c d) l e

  pub starts_passed : {p i j j₀ r k : ℕ} → Closing cover p i j₀ j → Cut cover.closes.now (p + 1) j → i < length cover.opens.now → r ≡ bool_byte (eqb (get_or cover.opens.now i 0) p)
      → Opening cover p j (i + r) k → Opening cover p j i k
  starts_passed c d l e o = opening_then (starts_begun c d l e) o

  -- all keys at the position are passed
  module _ {old now : CandidateLists} {held : Held} {p i j₀ j i' : ℕ} (a : Added cover old now held p i j₀) (c : Closing cover p i j₀ j) (o : Opening cover p j i i') (d : Cut cover.opens.now (p + 1) i') where
    pub sweeping_again : Sweeping cover old now held p i' j
    sweeping_again = record {
      open_upto = d.upto;
      close_upto = o.closed.upto;
      started = λ _. (d, o.closed);
      fresh = λ z. omega (arith, o.order, o.grown);
      holding = holding_skip a.holding (c.same ∙ o.same);
      few = omega (arith, a.few, o.grown);
      none = a.none;
      room = λ x q e m f. omega (arith, a.late x q e f, a.few, o.grown, c.grown);
    }
