-- `Frame::write` meets its contract.
use Rattle.frame_text.proofs.laws.Stores.{frame_stores}
use Rattle.frame_text.proofs.Frame.write.Goals as goal

pub returns-clause-output_after : goal.returns-clause-output_after
returns-clause-output_after c =
    rw (c.write_hex-4.ensures, c.write_hex-3.ensures, c.write_hex-2.ensures, c.write_hex.ensures, c.from.ensures)
    (frame_stores _ _ _ _ _ _)
