-- A SoupBinTCP session laid, and read back.
use Prim.Native.Nat.{ℕ, ◌^◌, ◌≤◌, ◌<◌}
use mathlib.Core.List.{List, [], ◌∷◌, ◌++◌, append_assoc}
use mathlib.Core.Bool.{Bool, true}
use mathlib.Core.Path.{◌≡◌, refl, ap, ◌∙◌}
use native.Mathlib.Omega.{arith}
use lib.ListN.{length, drop, length-append}
use Rattle.wire.specs.Bounds.{session_size}
use Rattle.wire.specs.Output.{put}
use Rattle.wire.proofs.Outputs.{length-put}
use Rattle.host_states.specs.Little.{little_bytes}
use Rattle.host_states.specs.States.{Keeps, Lays, on_code, front_bytes, name_in}
use Rattle.host_states.proofs.LittleLaws.{length-little}
use Rattle.wire.proofs.PartLaws.{name-ten}
use Rattle.host_states.proofs.StateLaws.{put_next, length_front, keeps-not, keeps-laid, laid-front, past-field, little-past-field, byte-past-field, little-in-front, name-in-front}
use Rattle.host_session.specs.Session.{phase_at, session_state_size, SessionFields, session_fields, session_state_bytes, session_state_in}

module _ (first : ℕ) (name : List ℕ) (n b : ℕ) (ten : length name ≡ session_size) where
  pub length-session : length (session_state_bytes (session_fields first name n b)) ≡ session_state_size
  unfolding session_state_bytes
  length-session = omega (arith, length_front first name n ten, length-append (front_bytes first name n) (b ∷ []))

  session-parts : (m : List ℕ) → session_state_bytes (session_fields first name n b) ++ m ≡ first ∷ (name ++ (little_bytes 8 n ++ (b ∷ m)))
  unfolding session_state_bytes front_bytes
  session-parts m = simp append_assoc

  -- the fields are read from them, whatever follows
  session-back : (m : List ℕ) → n < 256 ^ 8 → session_state_in (first ∷ (name ++ (little_bytes 8 n ++ (b ∷ m)))) ≡ session_fields first name n b
  unfolding session_state_in
  session-back m u =
      rw (
        past-field (first ∷ []) (name ++ (little_bytes 8 n ++ (b ∷ m))) 1 refl,
        name-in-front session_size name (little_bytes 8 n ++ (b ∷ m)) ten,
        little-past-field (first ∷ []) (name ++ (little_bytes 8 n ++ (b ∷ m))) 1 refl 10 8,
        little-past-field name (little_bytes 8 n ++ (b ∷ m)) 10 ten 0 8,
        little-in-front 8 n (b ∷ m) u,
        byte-past-field (first ∷ []) (name ++ (little_bytes 8 n ++ (b ∷ m))) 1 refl 18,
        byte-past-field name (little_bytes 8 n ++ (b ∷ m)) 10 ten 8,
        byte-past-field (little_bytes 8 n) (b ∷ m) 8 (length-little 8 n) 0,
      )

  pub session-lays : (l l₁ l₂ : List ℕ) → session_state_size ≤ length l → l₁ ≡ put l 0 (front_bytes first name n) → l₂ ≡ put l₁ phase_at (b ∷ []) → n < 2 ^ 64
      → Lays l l₂ session_state_in (session_state_bytes (session_fields first name n b)) (session_fields first name n b)
  unfolding session_state_bytes
  session-lays l l₁ l₂ h p r u =
      let laid = put_next l l₁ l₂ (front_bytes first name n) (b ∷ []) 19 (length_front first name n ten) (omega arith) p r in
      let front = laid ∙ laid-front l _ (omega (arith, length-session)) ∙ session-parts _ in
      record { laid = laid; back = rw front (session-back _ u) }

  module _ (code : ℕ) (l : List ℕ) where
    pub session-not : (code ≡ 0 → ⊥) → Keeps (on_code code) l l session_state_size session_state_in (session_state_bytes (session_fields first name n b)) (session_fields first name n b)
    session-not z = keeps-not l session_state_size session_state_in _ _ length-session code z

    pub session-laid : (m : List ℕ) → code ≡ 0 → Lays l m session_state_in (session_state_bytes (session_fields first name n b)) (session_fields first name n b)
        → Keeps (on_code code) l m session_state_size session_state_in (session_state_bytes (session_fields first name n b)) (session_fields first name n b)
    session-laid m z p = keeps-laid l session_state_size session_state_in _ _ length-session code m z p

-- but for the name, which stands there
module _ (first n b : ℕ) (l : List ℕ) where
  pub there-lays : (l₁ l₂ : List ℕ) → session_state_size ≤ length l → l₁ ≡ put l 0 (front_bytes first (name_in l) n) → l₂ ≡ put l₁ phase_at (b ∷ []) → n < 2 ^ 64
      → Lays l l₂ session_state_in (session_state_bytes (session_fields first (name_in l) n b)) (session_fields first (name_in l) n b)
  there-lays l₁ l₂ h p r u = session-lays first (name_in l) n b (name-ten (drop 1 l)) l l₁ l₂ h p r u

  module _ (code : ℕ) where
    pub there-not : (code ≡ 0 → ⊥) → Keeps (on_code code) l l session_state_size session_state_in (session_state_bytes (session_fields first (name_in l) n b)) (session_fields first (name_in l) n b)
    there-not z = session-not first (name_in l) n b (name-ten (drop 1 l)) code l z

    pub there-laid : (m : List ℕ) → code ≡ 0 → Lays l m session_state_in (session_state_bytes (session_fields first (name_in l) n b)) (session_fields first (name_in l) n b)
        → Keeps (on_code code) l m session_state_size session_state_in (session_state_bytes (session_fields first (name_in l) n b)) (session_fields first (name_in l) n b)
    there-laid m z p = session-laid first (name_in l) n b (name-ten (drop 1 l)) code l m z p

-- a session of either end, which its four fields make where there are enough bytes
pub end_kept : {S : Type 0} (lays : Bool) (l m : List ℕ) (reads : List ℕ → S) (made : SessionFields → S) (f : SessionFields) (x : S)
    → ((n : List ℕ) → session_state_size ≤ length n → reads n ≡ made (session_state_in n)) → made f ≡ x
    → Keeps lays l m session_state_size session_state_in (session_state_bytes f) f
    → Keeps lays l m session_state_size reads (session_state_bytes f) x
end_kept lays l m reads made f x r e k =
    record {
      fits = k.fits;
      leaves = k.leaves;
      reads_back = λ z h. r m (rw (as_long z) h) ∙ ap made (k.reads_back z h) ∙ e;
    }
  where
    as_long : lays ≡ true → length m ≡ length l
    as_long z = ap length k.leaves ∙ rw z (length-put l 0 (session_state_bytes f))
