-- The two kinds of a move of the mapper, and their numbers.
use Rattle.std.specs.Prelude.{ℕ, cond, eqb}
use Rattle.base.specs.declared.Kind.{Kind}
use Rattle.base.specs.declared.Kind.TheVariants.{Delete, Insert}

-- 1 inserts, any other deletes
abbrev pub kind_of : ℕ → Kind
kind_of number = cond (eqb number 1) Insert Delete

-- the number of each in the rules
abbrev pub kind_number : Kind → ℕ
kind_number Delete = 0
kind_number Insert = 1
