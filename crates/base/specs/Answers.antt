-- What the calls answer: the first refusal, or what was done.
use Rattle.std.specs.Prelude.{ℕ, Result, Ok, Some, None}
use Rattle.base.specs.declared.Refusal.{Refusal}
use Rattle.base.specs.declared.Stats.{Stats}
use Rattle.base.specs.declared.Place.{Place}
use Rattle.base.specs.declared.Outcome.{Outcome}
use Rattle.base.specs.declared.Slide.{Slide}
use Rattle.base.specs.declared.Finding.{Finding}

-- a sweep
abbrev pub SweepAnswer : Type 0
SweepAnswer = Result Outcome Refusal

-- no place, and what was counted
abbrev pub nothing : Stats → SweepAnswer
nothing stats = Ok (record { place = None; stats = stats })

-- a place, and what was counted
abbrev pub placed : Place → Stats → SweepAnswer
placed place stats = Ok (record { place = Some place; stats = stats })

-- a script: the pair after its last step
abbrev pub ScriptAnswer : Type 0
ScriptAnswer = Result Slide Refusal

-- a finder: how many candidates it listed, and its seed hits
abbrev pub FinderAnswer : Type 0
FinderAnswer = Result Finding Refusal

abbrev pub listed : ℕ → ℕ → FinderAnswer
listed count hits = Ok (record { count = count; hits = hits })
