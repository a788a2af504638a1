-- What a fill does to the window.
use Rattle.std.specs.Prelude.{ℕ, ◌≤◌, ◌≡◌, List, length, take}
use Rattle.frame_list.specs.declared.window.Rest.{Rest}
use Rattle.frame_list.specs.declared.window.Filled.{Filled}

-- if more may follow, then at least the wanted bytes are held
abbrev pub Enough : Rest → ℕ → ℕ → Type 0
Enough Rest.More wanted held = wanted ≤ held
Enough Rest.Ended wanted held = Unit {0}
Enough (Rest.Failed error) wanted held = Unit {0}

-- A fill leaves the bytes that were held, and all bytes held afterwards fit the window.
pub record Fills (was : List ℕ) (before wanted : ℕ) (r : Filled) (left : List ℕ) : Type 0 where
  pub kept : take before left ≡ take before was
  pub least : before ≤ r.held
  pub most : r.held ≤ length was
  pub enough : Enough r.rest wanted r.held
