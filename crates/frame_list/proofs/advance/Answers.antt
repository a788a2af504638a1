-- `frame_list::advance` meets its contract, by the window's list and the refusal's need. Assumes nothing.
use mathlib.Core.Path.{refl, sym, ◌∙◌}
use mathlib.Core.Logic.{⊎_elim}
use Rattle.error.specs.declared.Need.{Need}
use Rattle.frame_list.proofs.CardTurns.{verdict_for, read-sound, listed-place-held, turns, refused-stops}
use Rattle.frame_list.proofs.advance.Goals as goal

pub wait-requires : goal.wait-requires
wait-requires c =
    (read-sound _ _ _ _ c.requires c.list_frames-place.ensures, listed-place-held _ _ _ _ c.requires c.list_frames-place.ensures)

pub returns-in-Wait : goal.returns-in-Wait
returns-in-Wait c =
    turns _ _ _ _ c.requires c.list_frames-place.ensures (sym c.in-Wait.ensures) _ c.wait.auto.window _ c.wait.ensures

pub returns-in-Room : goal.returns-in-Room
unfolding verdict_for
returns-in-Room c =
    rw c.over.ensures
    (⊎_elim
    (λ e. refused-stops _ _ _ _ c.requires c.list_frames-place.ensures Need.Room (sym c.needs.ensures ∙ e) refl)
    (λ e. refused-stops _ _ _ _ c.requires c.list_frames-place.ensures Need.Final (sym c.needs.ensures ∙ e) refl)
    c.in-Room.is)
