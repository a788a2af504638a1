-- The invariant of `fill`: each read leaves the bytes that were held at first. Assumes nothing.
use Prim.Native.Nat.{ℕ, ◌≤◌}
use mathlib.Core.Path.{◌≡◌, ap, sym, ◌∙◌}
use mathlib.Core.List.{List}
use lib.ListN.{length, take}
use lib.Seq.{take-take}
use Rattle.frame_list.specs.declared.window.Rest.{Rest}
use Rattle.frame_list.specs.Window.{Enough, Fills}

pub record FillInvariant (was : List ℕ) (before : ℕ) (l : List ℕ) (held : ℕ) : Type 0 where
  pub long : length l ≡ length was
  pub kept : take before l ≡ take before was
  pub least : before ≤ held
  pub most : held ≤ length was

-- after one read
pub read_keeps : {was l l' : List ℕ} {before held : ℕ} → FillInvariant was before l held → length l' ≡ length l → take held l' ≡ take held l → FillInvariant was before l' held
read_keeps {was} {l} {l'} {before} {held} inv long kept = record {
  long = long ∙ inv.long;
  kept = sym (take-take before held l' inv.least) ∙ ap (take before) kept ∙ take-take before held l inv.least ∙ inv.kept;
  least = inv.least;
  most = inv.most;
}

pub fill-ends : {was l : List ℕ} {before wanted held : ℕ} (rest : Rest) → FillInvariant was before l held → Enough rest wanted held
    → Fills was before wanted (record { held = held; rest = rest }) l
fill-ends rest inv enough = record { kept = inv.kept; least = inv.least; most = inv.most; enough = enough }
