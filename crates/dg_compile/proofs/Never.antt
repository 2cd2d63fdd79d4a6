-- A test that fails doesn't hold.
use Rattle.std.proofs.Common.{◌≡◌, true, false}

pub never : {A : Type 0} → false ≡ true → A
never h = cc
