-- Order 13: two neighbours that swap places leave the same and deliver the same.
use Prim.Native.Nat.{ℕ, ◌+◌, ◌-◌, ◌≤◌}
use mathlib.Core.Path.{◌≡◌, refl, sym, ap, ◌∙◌}
use mathlib.Core.List.Memᴰ
use mathlib.Core.List.{List, [], ◌∷◌, ◌++◌}
use mathlib.Core.Bool.{Bool, true, false}
use mathlib.Core.Logic.{inl, inr}
use native.Mathlib.Omega.{arith}
use lib.ListN.{length, get_or}
use Rattle.wire.specs.Bounds.{blank}
use Rattle.moldudp64.specs.Header.{number_of}
use Rattle.moldudp64.specs.Downstream.{DownstreamKind, data_packet, heartbeat, kind_of, messages_of}
use Rattle.moldudp64.proofs.DownstreamLaws.{count-sound, kind-blocks}
use Rattle.receiver.specs.Receiver.{receiver, refusal_for}
use Rattle.receiver.proofs.StartLaws.{started}
use Rattle.receiver.proofs.Promises.{names-it}
use Rattle.receiver.proofs.NamedLaws.{data-end-not}
use Rattle.feed.specs.Session.{Datagram, Session, messages_from, OfKind, AllOfKind}
use Rattle.feed.specs.Machine.{after, delivered}
use Rattle.feed.specs.Faithful.{Opens, on_its_name, learns_it}
use Rattle.feed.proofs.FeedLaws.{inv-after, exact-after}
use Rattle.feed.proofs.Sorts.{TrueData, Sort, is-bad, is-other, is-heartbeat, is_of_data, is-end, sort}
use Rattle.early_holding.specs.Holding.{Lent, lent, early, next_of, is_held, held_message}
use Rattle.early_receiver.specs.Early.{start_early, early_refusal, lent_after}
use Rattle.early_condition_3.specs.Condition3.{keeper}
use Rattle.early_condition_3.specs.Swapped.{Near, EitherOrder, SwappedNeighbours}
use Rattle.early_condition_3.proofs.RunLaws.{cases}
use Rattle.early_condition_3.proofs.ModelLaws.{Has}
use Rattle.early_condition_3.proofs.MadeLaws.{Made, Run, same-made, made_all, same_next, same-held}
use Rattle.early_condition_3.proofs.Reading.{reading, is-held, of-held}
use Rattle.early_messages.proofs.ReachLaws.{right-refusal}
use Rattle.early_condition_3.proofs.StepLaws.{same_base}
use Rattle.early_condition_3.proofs.NamedLaws as condition
use Rattle.early_condition_3.proofs.ConditionLaws.{refused_all, fresh-inv, learned-inv}

beat-kind : (k : DownstreamKind) → k ≡ heartbeat → k ≡ data_packet → ⊥
beat-kind k e f = let z : ◌≡◌ {A = ℕ} 0 1 = cc in omega arith

-- two runs of numbers that have come, in either order
swap_runs : (X : ℕ → Type 0) (f c g k j : ℕ) → Run (Run X f c) g k j → Run (Run X g k) f c j
swap_runs X f c g k j x = cases x (λ y. cases y (λ z. inl (inl z)) (λ z. inr z)) (λ y. inl (inr y))

-- a near datagram is true data, and ends at most 64 above n
module _ (s : Session) where
  near-data : (n : ℕ) (d : Datagram) → Near s n d → TrueData s d
  near-data n d e = by (sort s d e.of_kind)
    where
      by : Sort s d → TrueData s d
      by (is-bad h) = absurd (h e.is_well_formed)
      by (is-other w h) = absurd (h e.name)
      by (is-heartbeat x k) = absurd (beat-kind (kind_of d) k e.is_of_data)
      by (is_of_data t) = t
      by (is-end t) = absurd (data-end-not (kind_of d) e.is_of_data t.kind)

  near-end : (n : ℕ) (d : Datagram) → Near s n d → number_of d + length (messages_of d) ≤ n + 65
  near-end n d e = omega (arith, count-sound d e.is_well_formed, kind-blocks d data_packet e.is_of_data, e.to_reach)

-- ---- two datagrams near n, on the receiver and its slots

module _ (s : Session) (named : s.name ≡ blank → ⊥) where
  -- what a near datagram makes of a state made from n on
  made_by : (b : ℕ) (X : ℕ → Type 0) (r : Lent) (d : Datagram) → condition.Inv s named r → Near s b d → Made b X (reading r)
      → r.receiver.base.ended ≡ false → Made b (Run X (number_of d) (length (messages_of d))) (reading (lent_after r d))
  made_by b X r d i e m o =
      let t = near-data s b d e in
      rw (condition.open-data s named d r i t o, condition.read_is s named d t r i.sound)
      (made_all s b X (reading r) (number_of d) (messages_of d) i.hold m e.from_next (near-end s b d e) t.messages e.short)

  open-still : (b : ℕ) (r : Lent) (d : Datagram) → condition.Inv s named r → Near s b d → r.receiver.base.ended ≡ false → (lent_after r d).receiver.base.ended ≡ false
  open-still b r d i e o =
      let t = near-data s b d e in
      rw (condition.open-data s named d r i t o) ((same_base r (number_of d) (messages_of d)).ended ∙ o)

  -- what has come at first: what is held
  abbrev Held : Lent → ℕ → Type 0
  Held r j = Has (reading r) j

  made-first : (r : Lent) → condition.Inv s named r → Made (next_of r.receiver) (Held r) (reading r)
  made-first r i =
      record {
        from = omega arith;
        come = λ j x y. absurd (omega arith);
        gap = λ x. let a = i.hold.above (next_of r.receiver) x in omega arith;
        has = λ j x y. y;
        only = λ j x y. y;
      }

  module _ (r : Lent) (i : condition.Inv s named r) (o : r.receiver.base.ended ≡ false) (a b : Datagram)
      (p : Near s (next_of r.receiver) a) (q : Near s (next_of r.receiver) b) where
    next-inv : (x : Datagram) → OfKind s x → condition.Inv s named (lent_after r x)
    next-inv x k = (condition.keeps s named).kept r x i k

    made-both : (x y : Datagram) → Near s (next_of r.receiver) x → Near s (next_of r.receiver) y
        → Made (next_of r.receiver) (Run (Run (Held r) (number_of x) (length (messages_of x))) (number_of y) (length (messages_of y)))
        (reading (lent_after (lent_after r x) y))
    made-both x y u v =
        made_by (next_of r.receiver) _ (lent_after r x) y (next-inv x u.of_kind) v
        (made_by (next_of r.receiver) (Held r) r x i u (made-first r i) o)
        (open-still (next_of r.receiver) r x i u o)

    last-inv : (x y : Datagram) → OfKind s x → OfKind s y → condition.Inv s named (lent_after (lent_after r x) y)
    last-inv x y k l = (condition.keeps s named).kept (lent_after r x) y (next-inv x k) l

    ba-made : Made (next_of r.receiver) (Run (Run (Held r) (number_of a) (length (messages_of a))) (number_of b) (length (messages_of b)))
        (reading (lent_after (lent_after r b) a))
    ba-made =
        same-made (next_of r.receiver) _ _ _
        (λ j x. swap_runs (Held r) (number_of b) (length (messages_of b)) (number_of a) (length (messages_of a)) j x)
        (λ j x. swap_runs (Held r) (number_of a) (length (messages_of a)) (number_of b) (length (messages_of b)) j x)
        (made-both b a q p)

    same_number : next_of (lent_after (lent_after r a) b).receiver ≡ next_of (lent_after (lent_after r b) a).receiver
    same_number =
        omega (
          arith,
          same_next (next_of r.receiver) _ _ _ (made-both a b p q) ba-made,
          same_next (next_of r.receiver) _ _ _ ba-made (made-both a b p q),
        )

    holds-too : (j : ℕ) → is_held (lent_after (lent_after r a) b).receiver j ≡ true → is_held (lent_after (lent_after r b) a).receiver j ≡ true
    holds-too j h =
        sym (is-held (lent_after (lent_after r b) a) j)
        ∙ same-held s (next_of r.receiver) _ _ _ (made-both a b p q) ba-made same_number (last-inv a b p.of_kind q.of_kind).hold j
        (is-held (lent_after (lent_after r a) b) j ∙ h)

    holds-back : (j : ℕ) → is_held (lent_after (lent_after r b) a).receiver j ≡ true → is_held (lent_after (lent_after r a) b).receiver j ≡ true
    holds-back j h =
        sym (is-held (lent_after (lent_after r a) b) j)
        ∙ same-held s (next_of r.receiver) _ _ _ ba-made (made-both a b p q) (sym same_number) (last-inv b a q.of_kind p.of_kind).hold j
        (is-held (lent_after (lent_after r b) a) j ∙ h)

    same_bits : (x y : Bool) → (x ≡ true → y ≡ true) → (y ≡ true → x ≡ true) → x ≡ y
    same_bits true true f g = refl
    same_bits true false f g = sym (f refl)
    same_bits false true f g = g refl
    same_bits false false f g = refl

    held-true : (t : Lent) → condition.Inv s named t → (j : ℕ) → is_held t.receiver j ≡ true → held_message t j ≡ get_or s.messages (j - 1) []
    held-true t v j h = (v.hold.is_true j (held_message t j) (of-held t j h)).bytes

    two : (x y : Datagram) → OfKind s x → OfKind s y → AllOfKind s (x ∷ y ∷ [])
    two x y k l z m =
        cases (Memᴰ.cases_cons m) (λ e. rw e k)
        (λ e. cases (Memᴰ.cases_cons e) (λ f. rw f l) (λ f. absurd (Memᴰ.not-nil f)))

    exact_two : (x y : Datagram) → OfKind s x → OfKind s y
        → delivered keeper r (x ∷ y ∷ []) ≡ messages_from s (next_of r.receiver) (next_of (lent_after (lent_after r x) y).receiver)
    unfolding after
    exact_two x y k l = exact-after keeper s (OfKind s) (condition.Inv s named) (condition.Behind s named) (condition.keeps s named) r (x ∷ y ∷ []) i (two x y k l)

    pub either_order : EitherOrder r a b
    unfolding after
    either_order =
        record {
          leaves =
              record {
                number = same_number;
                numbers = λ j. same_bits _ _ (holds-too j) (holds-back j);
                messages = λ j h.
                    held-true (lent_after (lent_after r a) b) (last-inv a b p.of_kind q.of_kind) j h
                    ∙ sym (held-true (lent_after (lent_after r b) a) (last-inv b a q.of_kind p.of_kind) j (holds-too j h));
              };
          delivers =
              exact_two a b p.of_kind q.of_kind
              ∙ ap (messages_from s (next_of r.receiver)) same_number
              ∙ sym (exact_two b a q.of_kind p.of_kind);
        }

pub swapped-neighbours : SwappedNeighbours
unfolding SwappedNeighbours start_early
swapped-neighbours s name start limit lengths slots refused naming ds r a b e h l g k o t w x p q =
    by-opening (rw (started name start limit e) at o) t (w ∙ rw (started name start limit e) refl)
  where
    by-opening : {refused naming : List Datagram} → Opens s name (early_refusal (lent (early (receiver name start limit false) 0) lengths slots)) refused naming
        → AllOfKind s (naming ++ ds) → r ≡ after keeper (lent (early (receiver name start limit false) 0) lengths slots) (refused ++ (naming ++ ds)) → EitherOrder r a b
    by-opening (on_its_name y n) t w =
        let i = inv-after keeper s (OfKind s) (condition.Inv s y) (condition.Behind s y) (condition.keeps s y) _ ds (fresh-inv s start limit lengths slots y h l g k) t in
        either_order s y r (rw (w, n) i) x a b p q
    by-opening (learns_it {refused} {d} n c f m) t w =
        let u : Lent = lent (early (receiver blank start limit false) 0) lengths slots in
        let v : refusal_for u.receiver.base d ≡ 0 = sym (right-refusal u d k g) ∙ (rw n at f) in
        let y : s.name ≡ blank → ⊥ = λ z. names-it u.receiver.base d v refl (m ∙ z) in
        let i = learned-inv s start limit lengths slots y h l g k d v m refused ds (refused_all u refused (rw n at c)) t in
        either_order s y r (rw (w, n) i) x a b p q
