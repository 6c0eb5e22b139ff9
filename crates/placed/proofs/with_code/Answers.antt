-- `placed::with_code` meets its contract: by the code.
-- Assumes nothing.
use mathlib.Core.Path.{refl, sym, subst}
use mathlib.Core.Logic.{inl}
use native.Mathlib.Omega.{arith}
use Rattle.nets.specs.Verdict.{Joined}
use Rattle.placed.proofs.Codes.{adds_two}
use Rattle.placed.proofs.Placing.{Room, still_joined}
use Rattle.placed.proofs.with_code.Goals as goal

pub with_buffer-requires-in_default-clause-joined : goal.with_buffer-requires-in_default-clause-joined
with_buffer-requires-in_default-clause-joined c =
    let a = c.args in
    let fit = c.requires.c_lt_channels in
    let two = adds_two a.code (omega arith) in
    let room : Room a.net a.c 8 =
    record { plain = inl refl; joined = c.requires.joined; inside = fit.0; blocks_fit = omega (arith, fit.1, two); channels_fit = omega (arith, fit.2, two) } in
    subst Joined (sym c.with_buffer-first.ensures) (still_joined a.net a.c 8 room)
