-- What a call leaves in a lent buffer.
use Rattle.std.specs.Prelude.{List, ◌++◌, ℕ, length, drop, replicate}

-- the first n cleared, the rest kept
abbrev pub zeroed : ℕ → List ℕ → List ℕ
zeroed n entry = replicate n 0 ++ drop n entry

-- the answers over the front, the rest kept
abbrev pub over : {A : Type 0} → List A → List A → List A
over answers entry = answers ++ drop (length answers) entry
