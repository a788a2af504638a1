-- A piece of a subframe: only contracts of private functions name it, so nobody has to believe it.
use Rattle.std.specs.Prelude.{ℕ, List, ◌++◌, ℤ, take}
use Rattle.rfc9639.specs.SubframeCoding.{plain, subframe_header_bits}

-- the header, then at most m samples as they are
abbrev pub head_and_plain : ℕ → ℕ → ℕ → List ℤ → List ℕ
head_and_plain code w m xs = subframe_header_bits code ++ plain w (take m xs)
