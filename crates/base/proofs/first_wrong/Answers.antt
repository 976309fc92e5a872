-- `base::first_wrong` finds the first wrong place: the loop keeps `Checking` at the order that is asked for. Assumes nothing.
use Prim.Native.Nat.{◌+◌}
use mathlib.Core.Path.{ap, sym, ◌∙◌}
use native.Mathlib.Omega.{arith}
use lib.ListN.{length, length-map}
use Rattle.base.proofs.OrderChecks.{checking_none, checking_at, checking_end, key_start, key_step, key_stop}
use Rattle.base.proofs.first_wrong.Goals as goal
use Rattle.base.proofs.first_wrong.Goals.{else-i-n-via-then-i-n+else-not-follows-3, else-i-n-via-else-i-n}

pub returns-then-n-eq0 : goal.returns-then-n-eq0
returns-then-n-eq0 g c = checking_none _ _ (ap length (sym (g.met.T.Key.each c.args.keys.now)) ∙ length-map c.args.keys.now g.T.Key.number ∙ c.if-n-eq0.true)

pub loop-i-init : goal.loop-i-init
loop-i-init g c = key_start g.T.Key.number c.args.keys.now (g.met.T.Key.each _) _ c.index-keys-0.is c.wide-last.ensures c.if-n-eq0.false

pub returns-then-not-follows : goal.returns-then-not-follows
returns-then-not-follows g c = key_stop g.T.Key.number c.args.keys.now (g.met.T.Key.each _) c.loop-i.invariant (omega arith) c.index-keys-i.is c.wide-x.ensures (sym c.follows.ensures ∙ c.if-not-follows.true)

pub returns-then-not-follows-2 : goal.returns-then-not-follows-2
returns-then-not-follows-2 g c =
    let past = key_step g.T.Key.number c.args.keys.now (g.met.T.Key.each _) c.loop-i.invariant (omega arith) c.index-keys-i.is c.wide-x.ensures (sym c.follows.ensures ∙ c.if-not-follows.false) in
    key_stop g.T.Key.number c.args.keys.now (g.met.T.Key.each _) past (omega arith) c.index-keys-i-in-loop-i.is c.wide-y.ensures (sym c.follows-in-loop-i.ensures ∙ c.if-not-follows-2.true)

pub loop-i-preserved : goal.loop-i-preserved
loop-i-preserved g c =
    let past = key_step g.T.Key.number c.args.keys.now (g.met.T.Key.each _) c.loop-i.invariant (omega arith) c.index-keys-i.is c.wide-x.ensures (sym c.follows.ensures ∙ c.if-not-follows.false) in
    checking_at (key_step g.T.Key.number c.args.keys.now (g.met.T.Key.each _) past (omega arith) c.index-keys-i-in-loop-i.is c.wide-y.ensures (sym c.follows-in-loop-i.ensures ∙ c.if-not-follows-2.false)) (c.loop-i.i + 2) (omega arith)

pub returns-then-not-follows-3 : goal.returns-then-not-follows-3
returns-then-not-follows-3 g c =
    key_stop g.T.Key.number c.args.keys.now (g.met.T.Key.each _) c.loop-i.invariant (omega arith) c.index-keys-i-then-i-n.is c.wide.ensures (sym c.follows-then-i-n.ensures ∙ c.if-not-follows-3.true)

pub returns : goal.returns
returns g c = elim c.else-i-n.branch [
  | else-i-n-via-then-i-n+else-not-follows-3 w ↦
      checking_end (key_step g.T.Key.number c.args.keys.now (g.met.T.Key.each _) c.loop-i.invariant (omega arith) w.index-keys-i-then-i-n.is w.wide.ensures (sym w.follows-then-i-n.ensures ∙ w.if-not-follows-3.false)) (omega arith)
  | else-i-n-via-else-i-n w ↦ checking_end c.loop-i.invariant (omega arith)
]
