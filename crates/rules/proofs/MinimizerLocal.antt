-- The local items are one part of the items handed in, where positions never descend: from the count of positions below range start to the count of those
-- below range end + length. So the code may take them as two parts of the hashes and the positions.
-- Assumes nothing.
use Prim.Native.Nat.{ℕ, suc, ◌+◌, ◌-◌, ◌≤◌, ◌<◌}
use mathlib.Core.Path.{◌≡◌, refl, ap, ◌∙◌}
use mathlib.Core.Logic.{⊎_elim}
use mathlib.Core.Bool.{Bool, ◌&&◌}
use mathlib.Core.List.{List, [], ◌∷◌, map}
use native.Mathlib.Omega.{arith}
use lib.Seq.{get_or-take, get_or-drop}
use lib.ListN.{length, get_or, take, drop, length-take, length-drop, length-map}
use lib.Dec.{ltb, leb}
use borrow.Author.Tests.{lt-ltb, le-ltb, le-leb, lt-leb}
use Rattle.base.specs.Pick.{pick}
use Rattle.base.specs.Lists.{Asc, StrictAsc}
use Rattle.base.proofs.Lists.{strict_at, strict_asc, strict_steps, map-take, map-drop}
use Rattle.rules.specs.Lists.{filter}
use Rattle.rules.specs.Sweep.{Sweep}
use Rattle.rules.specs.Minimizer.{Item, items_of, is_local, local_items, position, part, below}
use Rattle.rules.proofs.MinimizerPositions.{positions, below_is, below_least, below_none, below_step, lower, lower-le}

between : ℕ → ℕ → Item → Bool
between a b i = leb a i.at && ltb i.at b

module _ (a b : ℕ) where
  part-between : (items : List Item) → Asc (positions items) → filter (between a b) items ≡ part items (below a items) (below b items)
  unfolding filter between part pick position
  part-between [] asc = rw (below_none a, below_none b)
  part-between (x ∷ xs) asc =
      let ih = part-between xs asc.1 in
      let none : (q : ℕ) → q ≤ x.at → below q (x ∷ xs) ≤ 0 = λ q h. below_least (x ∷ xs) asc q 0 (omega arith) h in
      ⊎_elim (λ (l : (x.at < a) × (below a (x ∷ xs) ≡ suc (below a xs))).
      let e : below b (x ∷ xs) - below a (x ∷ xs) ≡ below b xs - below a xs = ⊎_elim (λ h. omega arith) (λ h. omega (arith, none b h.0)) (below_step b x xs) in
      rw (lt-leb a x.at l.0, e, l.1) ih)
      (λ (l : (a ≤ x.at) × (below a (x ∷ xs) ≡ below a xs)).
      let z : below a xs ≡ 0 = omega (arith, none a l.0) in
      ⊎_elim (λ (h : (x.at < b) × (below b (x ∷ xs) ≡ suc (below b xs))).
      let e : below b (x ∷ xs) - below a (x ∷ xs) ≡ suc (below b xs - below a xs) = omega arith in
      rw (le-leb a x.at l.0, lt-ltb x.at b h.0, e, l.1, z) (ap (λ (ys : List Item). x ∷ ys) (rw z at ih)))
      (λ (h : (b ≤ x.at) × (below b (x ∷ xs) ≡ below b xs)).
      let e : below b (x ∷ xs) - below a (x ∷ xs) ≡ 0 = omega (arith, none b h.0) in
      let f : below b xs - below a xs ≡ 0 = omega (arith, none b h.0) in
      rw (le-leb a x.at l.0, le-ltb x.at b h.0, e) (rw f at ih)) (below_step b x xs)) (below_step a x xs)

pub items_positions : (hs ps : List ℕ) → length hs ≡ length ps → positions (items_of hs ps) ≡ ps
unfolding items_of
items_positions [] [] e = refl
items_positions [] (p ∷ ps) e = absurd (omega arith)
items_positions (h ∷ hs) [] e = absurd (omega arith)
items_positions (h ∷ hs) (p ∷ ps) e = ap (λ (xs : List ℕ). p ∷ xs) (items_positions hs ps (omega arith))

pub items_hashes : (hs ps : List ℕ) → length hs ≡ length ps → map (λ (x : Item). x.hash) (items_of hs ps) ≡ hs
unfolding items_of
items_hashes [] [] e = refl
items_hashes [] (p ∷ ps) e = absurd (omega arith)
items_hashes (h ∷ hs) [] e = absurd (omega arith)
items_hashes (h ∷ hs) (p ∷ ps) e = ap (λ (xs : List ℕ). h ∷ xs) (items_hashes hs ps (omega arith))

-- the hashes, or the positions, of a part
pub map-part : (f : Item → ℕ) (items : List Item) (b e : ℕ) → map f (part items b e) ≡ take (e - b) (drop b (map f items))
unfolding part
map-part f items b e = rw (map-take, map-drop)

-- where the local items begin and end among those handed in
abbrev pub local_from : Sweep → ℕ
local_from s = lower s.range.start s.starts

abbrev pub local_to : Sweep → ℕ
local_to s = lower (s.range.end + s.settings.length) s.starts

module _ (s : Sweep) (same : length s.hashes ≡ length s.starts) (asc : Asc s.starts) where
  counted : (q : ℕ) → below q (items_of s.hashes s.starts) ≡ lower q s.starts
  counted q = below_is q (items_of s.hashes s.starts) ∙ ap (lower q) (items_positions s.hashes s.starts same)

  pub local_part : local_items s ≡ part (items_of s.hashes s.starts) (local_from s) (local_to s)
  unfolding local_items is_local between
  local_part =
      rw (← counted s.range.start, ← counted (s.range.end + s.settings.length))
      (part-between s.range.start (s.range.end + s.settings.length) (items_of s.hashes s.starts) (rw (items_positions s.hashes s.starts same) asc))

  mapped : (f : Item → ℕ) → map f (local_items s) ≡ take (local_to s - local_from s) (drop (local_from s) (map f (items_of s.hashes s.starts)))
  mapped f = rw local_part (map-part f (items_of s.hashes s.starts) (local_from s) (local_to s))

  pub local_positions : positions (local_items s) ≡ take (local_to s - local_from s) (drop (local_from s) s.starts)
  local_positions = mapped (λ x. x.at) ∙ rw items_positions

  pub local_hashes : map (λ (x : Item). x.hash) (local_items s) ≡ take (local_to s - local_from s) (drop (local_from s) s.hashes)
  local_hashes = mapped (λ x. x.hash) ∙ rw items_hashes

  pub local_length : length (local_items s) ≡ local_to s - local_from s
  local_length =
      omega (arith, length-map (local_items s) (λ (x : Item). x.at), simp (length-take, length-drop) at (ap length local_positions), lower-le (s.range.end + s.settings.length) s.starts)

  -- one by one, where the code reads them
  pub local_position : (i : ℕ) → i < length (local_items s) → position (local_items s) i ≡ get_or s.starts (local_from s + i) 0
  unfolding position
  local_position i l =
      let h : i < local_to s - local_from s = omega (arith, local_length) in
      rw (local_positions, get_or-take, get_or-drop)

  pub local_hash : (i : ℕ) → i < length (local_items s) → get_or (map (λ (x : Item). x.hash) (local_items s)) i 0 ≡ get_or s.hashes (local_from s + i) 0
  local_hash i l =
      let h : i < local_to s - local_from s = omega (arith, local_length) in
      rw (local_hashes, get_or-take, get_or-drop)

-- the local positions ascend strictly where those handed in do
pub strict_local : (s : Sweep) → length s.hashes ≡ length s.starts → StrictAsc s.starts → StrictAsc (positions (local_items s))
unfolding position
strict_local s same up =
    let asc = strict_asc s.starts up in
    strict_steps (positions (local_items s)) λ i l.
    let n = length-map (local_items s) (λ (x : Item). x.at) in
    let h = local_length s same asc in
    let a = local_position s same asc i (omega arith) in
    let b = local_position s same asc (i + 1) (omega arith) in
    omega (arith, strict_at s.starts up (local_from s + i) (local_from s + (i + 1)) (omega arith) (omega (arith, lower-le (s.range.end + s.settings.length) s.starts)))
