-- The end keys sorted and the start keys behind them are what the merge asks, and what it leaves are the keys of both kinds. Assumes nothing.
use mathlib.Core.Path.{◌≡◌, refl, sym, ap, subst, ◌∙◌}
use mathlib.Core.Bool.{Bool, true, false, ◌&&◌}
use mathlib.Core.List.{List, [], ◌∷◌, ◌++◌}
use Prim.Native.Nat.{ℕ, zero, suc, ◌+◌, ◌≤◌}
use native.Mathlib.Omega.{arith}
use lib.Dec.{ltb, leb}
use lib.ListN.{length, take, drop, length-take, length-drop, length-append}
use lib.Seq.{take-append-le, take_at, drop_at, length-take-le}
use Rattle.base.specs.Pick.{pick}
use Rattle.base.specs.Lists.{Asc}
use Rattle.base.specs.Sort.{sort_of}
use Rattle.base.proofs.Sort.{length_sort, asc_sort, sort_sort, sort_append}
use Rattle.rules.specs.Interval.{event_key}
use Rattle.interval_events.specs.declared.intervals.Intervals.{Intervals}
use Rattle.interval_events.specs.Events.{kept, keys_of, Front, Numbered, turns, Apart, Merged, Local}

-- answers at the front are within the list
pub front_fits : {answers out : List ℕ} {r : ℕ} → Front answers out r → r ≤ length out
front_fits {answers} {out} {r} f = omega (arith, length-take r out, ap length f.are, f.many)

pub front_long : {answers out : List ℕ} {r : ℕ} → Front answers out r → r ≡ length (take r out)
front_long {answers} {out} {r} f = sym (length-take-le r out (front_fits f))

-- answers at the front of a part that begins at b
pub front_behind : {answers ys : List ℕ} {r : ℕ} (xs zs : List ℕ) (b : ℕ) → b ≤ length xs → Front answers ys r → Front answers (drop b (take b xs ++ (ys ++ zs))) r
front_behind {answers} {ys} {r} xs zs b l f = record {
  many = f.many;
  are = ap (take r) (drop_at (take b xs) (ys ++ zs) b (length-take-le b xs l)) ∙ take-append-le r ys zs (front_fits f) ∙ f.are;
}

pub behind_room : (xs rest : List ℕ) {b : ℕ} → b ≤ length xs → b ≤ length (take b xs ++ rest)
behind_room xs rest {b} l = omega (arith, length-append (take b xs) rest, length-take-le b xs l)

-- there are no more keys than numbers
one_most : (b : Bool) (k : ℕ) → length (pick b (k ∷ []) []) ≤ 1
unfolding pick
one_most true k = omega arith
one_most false k = omega arith

pub keys_few : (kind from to : ℕ) (ps ns : List ℕ) → length (keys_of kind from to ps ns) ≤ length ns
unfolding keys_of
keys_few kind from to [] ns = omega arith
keys_few kind from to (p ∷ ps) [] = omega arith
keys_few kind from to (p ∷ ps) (n ∷ ns) =
    omega (arith, keys_few kind from to ps ns, length-append (pick (ltb from p && leb p to) (event_key p kind n ∷ []) []) (keys_of kind from to ps ns), one_most (ltb from p && leb p to) (event_key p kind n))

-- a part of a part
take_none : (n : ℕ) → take {A = ℕ} n [] ≡ []
take_none zero = refl
take_none (suc n) = refl

pub take_behind : (a b : ℕ) (xs : List ℕ) → drop b (take (b + a) xs) ≡ take a (drop b xs)
take_behind a zero xs = ap (λ (n : ℕ). take n xs) (let e : 0 + a ≡ a = omega arith in e)
take_behind a (suc b) [] = ap (λ (n : ℕ). drop {A = ℕ} (suc b) (take n [])) (let e : suc b + a ≡ suc (b + a) = omega arith in e) ∙ sym (take_none a)
take_behind a (suc b) (x ∷ xs) = ap (λ (n : ℕ). drop (suc b) (take n (x ∷ xs))) (let e : suc b + a ≡ suc (b + a) = omega arith in e) ∙ take_behind a b xs

module _ (ts out : List ℕ) {ss ks : List ℕ} {b a : ℕ} (f : Front (sort_of ts) ks b) (g : Front ss (drop b out) a) (l : b ≤ length out) where
  pub gather_room : b + a ≤ length out
  gather_room = omega (arith, front_fits g, length-drop b out)

  starts_behind : drop (length (take b ks)) (take (b + a) out) ≡ ss
  starts_behind = ap (λ (n : ℕ). drop n (take (b + a) out)) (sym (front_long f)) ∙ take_behind a b out ∙ g.are

  pub gather_apart : Asc (turns ss) → Apart (take b ks) (take (b + a) out)
  gather_apart r = record {
    room = omega (arith, front_long f, length-take-le (b + a) out gather_room);
    ends_asc = subst (λ (xs : List ℕ). Asc xs) (sym f.are) (asc_sort ts);
    starts_asc = subst (λ (xs : List ℕ). Asc (turns xs)) (sym starts_behind) r;
  }

  pub gather_merged : (last : List ℕ) → length last ≡ length (take (b + a) out) → Merged (drop (length (take b ks)) (take (b + a) out)) (take b ks) last → Merged ss ts (take (b + a) (last ++ drop (b + a) out))
  gather_merged last e m =
      let same : take (b + a) (last ++ drop (b + a) out) ≡ last = take_at last (drop (b + a) out) (b + a) (e ∙ length-take-le (b + a) out gather_room) in
      subst (λ (xs : List ℕ). Merged ss ts xs) (sym same)
      (record {
        same = m.same ∙ sort_append (drop (length (take b ks)) (take (b + a) out)) (take b ks) ss ts (ap sort_of starts_behind) (ap sort_of f.are ∙ sort_sort ts);
        order = m.order;
      })

pub pick-length : (b : Bool) (v : ℕ) → length (pick b (v ∷ []) []) ≡ pick b 1 0
unfolding pick
pick-length true v = refl
pick-length false v = refl

-- beside the same ends, as many are kept of each list
pub kept_many : (from : ℕ) (es xs ys : List ℕ) → length es ≡ length xs → length es ≡ length ys → length (kept from es xs) ≡ length (kept from es ys)
unfolding kept
kept_many from [] xs ys l m = refl
kept_many from (e ∷ es) [] ys l m = absurd (omega arith)
kept_many from (e ∷ es) (x ∷ xs) [] l m = absurd (omega arith)
kept_many from (e ∷ es) (x ∷ xs) (y ∷ ys) l m =
    omega (arith, length-append (pick (ltb from e) (x ∷ []) []) (kept from es xs), length-append (pick (ltb from e) (y ∷ []) []) (kept from es ys), pick-length (ltb from e) x, pick-length (ltb from e) y, kept_many from es xs ys (omega arith) (omega arith))

module _ {from to : ℕ} {xs : Intervals} {numbers keys out : List ℕ} (asked : Local from to xs numbers keys out) where
  abbrev starts : List ℕ
  starts = xs.starts.now

  abbrev ends : List ℕ
  ends = xs.ends.now

  same : length ends ≡ length starts
  same = xs.same_ends ∙ sym xs.same_starts

  pub local_ends : Numbered from ends ends numbers keys
  local_ends = record {
    parallel = refl;
    taken = asked.taken ∙ kept_many from ends starts ends same refl;
    room = asked.key_room;
  }

  module _ {b : ℕ} {ks : List ℕ} (f : Front (sort_of (keys_of 0 from to (kept from ends ends) numbers)) ks b) where
    pub local_few : b ≤ length numbers
    local_few = omega (arith, f.many, length_sort (keys_of 0 from to (kept from ends ends) numbers), keys_few 0 from to (kept from ends ends) numbers)

    pub local_room : b ≤ length out
    local_room = omega (arith, local_few, asked.room)

    pub local_starts : (part : List ℕ) → part ≡ drop b out → Numbered from starts ends numbers part
    local_starts part e = record { parallel = same; taken = asked.taken; room = omega (arith, local_few, asked.room, length-drop b out, ap length e) }
