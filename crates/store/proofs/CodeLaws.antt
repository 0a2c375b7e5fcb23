-- The ladder's rungs as the code of `answer` returns them: l is the lent output at entry, m at exit.
use Prim.Native.Nat.{ℕ, ◌+◌, ◌-◌}
use mathlib.Core.List.{List}
use mathlib.Core.Bool.{Bool, true, false}
use mathlib.Core.Path.{◌≡◌, refl, sym, ◌∙◌}
use native.Mathlib.Omega.{arith}
use lib.ListN.{length, take, drop}
use Rattle.wire.specs.declared.refusal.Refusal.{Refusal}
use Rattle.wire.specs.Output.{Written}
use Rattle.std.specs.Prelude.{if◌then◌else◌, Option, Some, None, Result, Ok, Err, ⊤}
use Rattle.wire.specs.Output.{Writes}
use Rattle.wire.specs.Words.{refused_by}
use Rattle.wire.proofs.Outputs.{writes-ground}
use Rattle.wire.proofs.Refusing.{has-ground, ground-of}
use Rattle.moldudp64_writer.specs.Writer.{add_up, encoded_cut, packet_ground}
use Rattle.store.specs.Store.{store, answer_ground, answer_bytes}
use Rattle.store.specs.declared.ask.Asked.{Asked}
use Rattle.store.specs.declared.pick.Picked.{Picked}
use Rattle.store.specs.Steps.{setting_ground, ask_of, refusal_behind, pick_of, taken_lengths, taken_data, Within}
use Rattle.store.proofs.LadderLaws.{answer-setting, answer-44, answer-ask, asked-ground, answer-none, answer-52, no_ground, within-so, are_bytes, no-packet-ground}

-- ---- `send`: parts by their ends are parts by their sizes

pub sends-part : (r : Written) (l m s : List ℕ) (n : ℕ) (ks d : List ℕ) (at c from b : ℕ)
    → Writes r l m (packet_ground n (take (at + c - at) (drop at ks)) (take (from + b - from) (drop from d))) 0
    (encoded_cut s n (take (at + c - at) (drop at ks)) (take (from + b - from) (drop from d)))
    → Writes r l m (packet_ground n (take c (drop at ks)) (take b (drop from d))) 0 (encoded_cut s n (take c (drop at ks)) (take b (drop from d)))
sends-part r l m s n ks d at c from b w =
    let e : at + c - at ≡ c = omega arith in
    let f : from + b - from ≡ b = omega arith in
    rw (e, f) at w

-- ---- `answer`

-- a refusal's number that is the ground, and not 0
says-ground : (l bs : List ℕ) (g : ℕ) (r : Refusal) → r.number ≡ g → (r.number ≡ 0 → ⊥) → Writes (Err r) l l g 0 bs
says-ground l bs g r e z = rw (← e) (writes-ground l 0 bs r.number z)

-- what stands behind 44
module _ (r : Refusal) (ks d : List ℕ) (b : Bool) (e : b ≡ add_up ks d) where
  pub add-up-behind : b ≡ true → r ≡ refusal_behind r ks d
  unfolding refusal_behind
  add-up-behind h = rw (← e, h)

  pub adds-not-behind : b ≡ false → record { number = 44 } ≡ refusal_behind r ks d
  unfolding refusal_behind
  adds-not-behind h = rw (← e, h)

module _ (s : List ℕ) (first : ℕ) (ks d : List ℕ) (size : ℕ) (q l : List ℕ) where
  pub refuse-setting : (c : Result ⊤ Refusal) (g : Refusal) → c ≡ refused_by (setting_ground first (length ks) size) → c ≡ Err g
      → Writes (Err g) l l (answer_ground (store s first ks d) size q) 0 (answer_bytes (store s first ks d) size q)
  refuse-setting c g e f =
      let z = has-ground _ _ _ e f in
      let n = ground-of _ _ _ e f in
      says-ground l _ _ g (n ∙ answer-setting (store s first ks d) size q z) (λ (y : g.number ≡ 0). z (sym n ∙ y))

  module _ (zg : setting_ground first (length ks) size ≡ 0) where
    pub refuse-ask : (a : Result Asked Refusal) (r k : Refusal) → a ≡ ask_of s first (length ks) q → a ≡ Err r → k ≡ refusal_behind r ks d
        → Writes (Err k) l l (answer_ground (store s first ks d) size q) 0 (answer_bytes (store s first ks d) size q)
    unfolding refusal_behind
    refuse-ask a r k e f h = go (add_up ks d) refl h
      where
        e' : Err r ≡ ask_of s first (length ks) q
        e' = sym f ∙ e

        go : (t : Bool) → add_up ks d ≡ t → k ≡ (if t then r else record { number = 44 })
            → Writes (Err k) l l (answer_ground (store s first ks d) size q) 0 (answer_bytes (store s first ks d) size q)
        go true b m = rw m (says-ground l _ _ r (answer-ask (store s first ks d) size q zg b r e') (asked-ground (store s first ks d) size q zg r e'))
        go false b m = rw m (says-ground l _ _ (record { number = 44 }) (answer-44 (store s first ks d) size q zg b) (omega arith))

    module _ (x : Result Asked Refusal) (a : Asked) (ex : x ≡ ask_of s first (length ks) q) (ea : x ≡ Ok a) (room : ℕ) (er : room ≡ size - 20) (y : Option Picked)
        (ey : y ≡ pick_of ks (length d) a.place a.count room) where
      asked_so : Ok a ≡ ask_of s first (length ks) q
      asked_so = sym ea ∙ ex

      pub refuse-lengths : y ≡ None
          → Writes (Err (record { number = 44 })) l l (answer_ground (store s first ks d) size q) 0 (answer_bytes (store s first ks d) size q)
      refuse-lengths h = says-ground l _ _ (record { number = 44 }) (answer-none (store s first ks d) size q zg a asked_so room er (sym h ∙ ey)) (omega arith)

      module _ (p : Picked) (ep : y ≡ Some p) where
        picked_so : Some p ≡ pick_of ks (length d) a.place a.count room
        picked_so = sym ep ∙ ey

        pub refuse-long : p.count ≡ 0
            → Writes (Err (record { number = 52 })) l l (answer_ground (store s first ks d) size q) 0 (answer_bytes (store s first ks d) size q)
        refuse-long z = says-ground l _ _ (record { number = 52 }) (answer-52 (store s first ks d) size q zg a asked_so room er p picked_so z) (omega arith)

        pub may-send : (p.count ≡ 0 → ⊥) → Within a p ks d
        may-send z = within-so (store s first ks d) size q zg a asked_so room er p picked_so z

        pub sends : (p.count ≡ 0 → ⊥) → (r : Written) (m : List ℕ)
            → Writes r l m (packet_ground a.number.0 (taken_lengths a p ks) (taken_data p d)) 0 (encoded_cut s a.number.0 (taken_lengths a p ks) (taken_data p d))
            → Writes r l m (answer_ground (store s first ks d) size q) 0 (answer_bytes (store s first ks d) size q)
        sends z r m w =
            let x = no-packet-ground (store s first ks d) size q zg a asked_so room er p picked_so z in
            let y = no_ground (store s first ks d) size q zg a asked_so room er p picked_so z in
            let b = are_bytes (store s first ks d) size q zg a asked_so room er p picked_so z in
            rw (x ∙ sym y, b) at w
