-- Which items are active after a move: item e comes to those from b to e at their end, and item b stands at their front. Assumes nothing.
use mathlib.Core.Path.{◌≡◌, sym, ap, ◌∙◌, subst, refl}
use mathlib.Core.List.{List, [], ◌∷◌}
use Prim.Native.Nat.{ℕ, suc, ◌+◌, ◌-◌, ◌^◌, ◌≤◌, ◌<◌}
use native.Mathlib.Omega.{arith}
use lib.ListN.{length, get_or, take, drop, length-drop, length-take}
use lib.Seq.{take-suc, drop-cons, get_or-drop}
use Rattle.base.specs.Lists.{All, hit, times}
use Rattle.base.proofs.Lists.{all_at, times-append}
use Rattle.base.specs.declared.Slide.{Slide}
use Rattle.sweep.proofs.Active.{active_room, active_more, active_less, inserted_flags}
use Rattle.minimizer_stops.specs.Stops.{Holds, Kept}
use Rattle.slide_mapper.specs.declared.lists.MapperLists.{MapperLists}
use Rattle.slide_mapper.specs.Lent.{AtPivot, Entered, Left}
use Rattle.slide_mapper.proofs.Lent.{inserted_in, deleted_in, entered_length, left_length}

module _ (ns : List ℕ) (b e : ℕ) where
  abbrev held : List ℕ
  held = take (e - b) (drop b ns)

  -- one more at the end
  more_times : (e' : ℕ) → b ≤ e → e < length ns → e' ≡ e + 1 → (j : ℕ) → times j (take (e' - b) (drop b ns)) ≡ times j held + hit j (get_or ns e 0)
  unfolding times
  more_times e' o l q j =
      let k : e' - b ≡ suc (e - b) = omega arith in
      let m : e - b < length (drop b ns) = omega (arith, length-drop b ns) in
      let n : b + (e - b) ≡ e = omega arith in
      let x : get_or (drop b ns) (e - b) 0 ≡ get_or ns e 0 = get_or-drop b ns (e - b) 0 ∙ ap (λ (i : ℕ). get_or ns i 0) n in
      ap (λ (i : ℕ). times j (take i (drop b ns))) k ∙ ap (times j) (take-suc (drop b ns) (e - b) 0 m) ∙ times-append j held (get_or (drop b ns) (e - b) 0 ∷ []) ∙
      rw x (omega arith)

  -- one less at the front
  less_times : (b' : ℕ) → b < e → e ≤ length ns → b' ≡ b + 1 → (j : ℕ) → times j held ≡ hit j (get_or ns b 0) + times j (take (e - b') (drop b' ns))
  unfolding times
  less_times b' o l q j =
      let k : e - b ≡ suc (e - b') = omega arith in
      let n : b' ≡ suc b = omega arith in
      ap (λ (i : ℕ). times j (take i (drop b ns))) k ∙ ap (λ (xs : List ℕ). times j (take (suc (e - b')) xs)) (drop-cons ns b 0 (omega arith)) ∙
      ap (λ (i : ℕ). hit j (get_or ns b 0) + times j (take (e - b') (drop i ns))) (sym n)

module _ {ns : List ℕ} {m : MapperLists} {at : Slide} {b e : ℕ} (h : Holds ns m at b e) where
  pub holds_pivot : AtPivot m at
  holds_pivot = record { slid = h.active.ready.slid }

  pub holds_in : (i : ℕ) → i < length ns → get_or ns i 0 < length m.counts.now
  holds_in i l = all_at (λ x. x < length m.counts.now) ns h.numbers i l

  pub holds_room : (i : ℕ) → i < length ns → get_or m.counts.now (get_or ns i 0) 0 + 2 < 2 ^ 32
  holds_room i l =
      omega (arith, active_room h.active (holds_in i l) 61440 (omega (arith, h.few, h.inside, length-take (e - b) (drop b ns), length-drop b ns)))

  -- as it was
  pub holds_at : (b' e' : ℕ) → b' ≡ b → e' ≡ e → Holds ns m at b' e'
  holds_at b' e' p q = subst (λ (x : ℕ). Holds ns m at x e') (sym p) (subst (λ (x : ℕ). Holds ns m at b x) (sym q) h)

  module _ {n : MapperLists} {r : Slide} where
    pub holds_more : (b' e' : ℕ) → b' ≡ b → e' ≡ e + 1 → e < length ns → Entered m at (get_or ns e 0) n r → Holds ns n r b' e'
    holds_more b' e' p q l v =
        subst (λ (x : ℕ). Holds ns n r x e') (sym p)
        (record {
          active = active_more h.active (holds_in e l) (take (e' - b) (drop b ns)) (more_times ns b e e' h.order l q) (inserted_in v);
          numbers = subst (λ (x : ℕ). All (λ i. i < x) ns) (sym (entered_length v)) h.numbers;
          few = h.few;
          order = omega (arith, h.order);
          inside = omega arith;
        })

    pub holds_less : (b' e' : ℕ) → b' ≡ b + 1 → e' ≡ e → b < e → Left m at (get_or ns b 0) n r → Holds ns n r b' e'
    holds_less b' e' p q l v =
        subst (λ (x : ℕ). Holds ns n r b' x) (sym q)
        (record {
          active = active_less h.active (holds_in b (omega (arith, h.inside))) (take (e - b') (drop b' ns)) (less_times ns b e b' l h.inside p) (deleted_in v);
          numbers = subst (λ (x : ℕ). All (λ i. i < x) ns) (sym (left_length v)) h.numbers;
          few = h.few;
          order = omega arith;
          inside = h.inside;
        })

-- what a move keeps
module _ {m : MapperLists} {at : Slide} {i : ℕ} {n : MapperLists} {r : Slide} where
  pub kept_entered : Entered m at i n r → Kept m n
  kept_entered v = record { query = inserted_flags (inserted_in v) }

  pub kept_left : Left m at i n r → Kept m n
  kept_left v = record { query = v.flags }

pub kept_on : {m n o : MapperLists} → Kept m n → Kept n o → Kept m o
kept_on p q = record { query = q.query ∙ p.query }

pub kept_none : (m : MapperLists) → Kept m m
kept_none m = record { query = refl }
