-- What an answer tells of the settings read, and of their refusal.
use mathlib.Core.Path.{◌≡◌, refl, ap}
use mathlib.Core.Bool.{Bool, true, false}
use Prim.Native.Nat.{ℕ}
use native.Mathlib.Omega.{arith}
use lib.Dec.{eqb}
use borrow.Author.Tests.{eqb-true, eqb-false}
use Rattle.std.specs.Prelude.{if◌then◌else◌, Result, Ok, Err}
use Rattle.wire.specs.declared.refusal.Refusal.{Refusal}
use Rattle.capture_settings.specs.declared.settings.Opened.{Opened}
use Rattle.capture_settings.specs.Settings.{Opening, opened_of}

-- they were read
pub record ReadAs (x : Opened) (y : Opening) : Type 0 where
  pub good : y.refusal.number ≡ 0
  pub settings : x.settings ≡ y.settings
  pub size : x.size ≡ y.size

is-ok : Result Opened Refusal → ℕ
is-ok (Ok x) = 1
is-ok (Err r) = 0

or-other : Opened → Result Opened Refusal → Opened
or-other z (Ok x) = x
or-other z (Err r) = z

pub ok-read : (y : Opening) (x : Opened) → Ok x ≡ opened_of y → ReadAs x y
unfolding opened_of is-ok or-other
ok-read y x e = go (eqb y.refusal.number 0) refl e
  where
    go : (b : Bool) → eqb y.refusal.number 0 ≡ b
        → Ok x ≡ (if b then Ok (record { settings = y.settings; size = y.size }) else Err y.refusal) → ReadAs x y
    go true f h =
        let s = ap (or-other x) h in
        record { good = eqb-true _ _ f; settings = ap (λ (o : Opened). o.settings) s; size = ap (λ (o : Opened). o.size) s }
    go false f h = let k = ap is-ok h in absurd (omega arith)

pub err_read : (y : Opening) (r : Refusal) → Err r ≡ opened_of y → y.refusal.number ≡ 0 → ⊥
unfolding opened_of is-ok
err_read y r e = go (eqb y.refusal.number 0) refl e
  where
    go : (b : Bool) → eqb y.refusal.number 0 ≡ b
        → ◌≡◌ {A = Result Opened Refusal} (Err r) (if b then Ok (record { settings = y.settings; size = y.size }) else Err y.refusal)
        → y.refusal.number ≡ 0 → ⊥
    go true f h z = let k = ap is-ok h in absurd (omega arith)
    go false f h z = eqb-false _ _ f z
