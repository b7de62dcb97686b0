-- What the code of the test of form goes by.
-- Assumes nothing.
use mathlib.Core.{Bool.{true}, Path.◌≡◌}
use Prim.Native.Nat.{◌≤◌}
use native.Mathlib.Omega.{arith}
use Rattle.basics.{proofs.Below.all-next}
use Rattle.form.specs.{Asked.Sized, Form.{fits, is_panel}, declared.Tables.Tables}
use Rattle.form.proofs.InForm.{fits-view, panel-iff}

pub sized-by : (p : Tables) → fits p.n p.t p.writer ≡ true → is_panel p.n p.number ≡ true → Sized p
sized-by p f h =
    let at : (1 ≤ p.number) × (p.number ≤ p.n) = (panel-iff _ _).0 h in
    let most : p.n ≤ 7 = (fits-view _ _ _ f).n-high in
    record { low = at.0; high = omega arith }

-- the loop over the places, and what the test of the whole panel asks
pub ruleset places = (all-next, sized-by)
