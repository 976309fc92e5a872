-- `coordinates::pack::walk` meets its contract: the loop keeps `Walk`. Assumes nothing.
use mathlib.Core.Path.{◌≡◌, sym, ap, subst, ◌∙◌}
use mathlib.Core.Bool.{false}
use mathlib.Core.List.{◌++◌}
use Prim.Native.Nat.{ℕ, ◌+◌, ◌<◌}
use native.Mathlib.Omega.{arith}
use lib.ListN.{length, get_or, set}
use Rattle.std.proofs.lemmas.Bool.Decides.{nat_tests}
use Rattle.coordinates.specs.Packed.{hash_of}
use Rattle.coordinates.proofs.Walk.{Walk, walk_start, walk_step, walk_end}
use Rattle.coordinates.proofs.pack.walk.Goals as goal

pub loop-key-init : goal.loop-key-init
unfolding hash_of
loop-key-init c =
    let h = c.args.hashes in
    let some : c.is_empty.result ≡ false = c.if-is_empty.false in
    let first : 0 < length c.args.keys.now = grind (arith, nat_tests) in
    walk_start _ _ _ c.requires.0 _ c.requires.1 first _ (c.at-prev.ensures ∙ ap (λ (n : ℕ). get_or (h.query.now ++ h.items.now) n 0) c.place_in.ensures.0)

pub loop-key-preserved : goal.loop-key-preserved
unfolding hash_of
loop-key-preserved c =
    let h = c.args.hashes in
    let l = c.loop-key in
    let next = c.next_number-c.result in
    let place = c.place_in-place.ensures.0 in
    subst (λ (n : ℕ). Walk h.query.now h.items.now c.args.keys.now (set l.coords n next) c.at-hash.result next (l.key-index + 1)) (sym place)
    (walk_step _ _ _ c.requires.0 l.invariant (omega arith) _ (c.at-hash.ensures ∙ ap (λ (n : ℕ). get_or (h.query.now ++ h.items.now) n 0) place) (omega arith) _ c.next_number-c.ensures)

pub returns : goal.returns
returns c =
    let some : c.is_empty.result ≡ false = c.if-is_empty.false in
    let first : 0 < length c.args.keys.now = grind (arith, nat_tests) in
    walk_end _ _ _ c.requires.0 c.loop-key.invariant first (omega arith)
