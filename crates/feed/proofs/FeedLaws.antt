-- Condition 3 for any receiver that keeps an invariant and an order of its states: what is left to show is about one datagram.
use Prim.Native.Nat.{ℕ, ◌+◌, ◌-◌, ◌≤◌}
use mathlib.Core.Path.{◌≡◌, refl, sym, ap, ◌∙◌}
use mathlib.Core.List.Memᴰ
use mathlib.Core.List.{List, [], ◌∷◌, ◌++◌, append_assoc}
use mathlib.Core.Logic.{⊎_elim}
use mathlib.Core.Bool.{true}
use native.Mathlib.Omega.{arith}
use lib.ListN.{length, length-take, length-drop}
use lib.Seq.{take-add, drop-drop}
use Rattle.feed.specs.Session.{Datagram, Session, last_of, messages_from, OfKind, All, AllOfKind}
use Rattle.feed.specs.Machine.{Machine, after, delivered, number_after}
use Rattle.feed.specs.Faithful.{DeliversTrue, Faithful}

-- The messages from a to b and those from b to c are those from a to c.
module _ (s : Session) where
  pub none_from : (a : ℕ) → messages_from s a a ≡ []
  unfolding messages_from
  none_from a = let e : a - a ≡ 0 = omega arith in rw e

  pub join : (a b c : ℕ) → 1 ≤ a → a ≤ b → b ≤ c → messages_from s a b ++ messages_from s b c ≡ messages_from s a c
  unfolding messages_from
  join a b c h1 h2 h3 =
      let e : c - a ≡ (b - a) + (c - b) = omega arith in
      let f : (a - 1) + (b - a) ≡ b - 1 = omega arith in
      rw (e, take-add, drop-drop, f)

  pub length_from : (a b : ℕ) → 1 ≤ a → a ≤ b → b ≤ last_of s + 1 → length (messages_from s a b) ≡ b - a
  unfolding messages_from
  length_from a b h1 h2 h3 = simp (length-take, length-drop) (omega arith)

-- A list of one kind, taken apart and made longer.
module _ {E : Type 0} {Kind : E → Type 0} where
  pub first_of : {e : E} {es : List E} → All Kind (e ∷ es) → Kind e
  first_of a = a _ (Memᴰ.head refl)

  pub rest_of : {e : E} {es : List E} → All Kind (e ∷ es) → All Kind es
  rest_of a x h = a x (Memᴰ.tail h)

  left-of : (p q : List E) → All Kind (p ++ q) → All Kind p
  left-of p q a x h = a x (Memᴰ.append_left q h)

  right_of : (p q : List E) → All Kind (p ++ q) → All Kind q
  right_of p q a x h = a x (Memᴰ.append_right p h)

  with-one : (p q : List E) {d : E} → All Kind (p ++ q) → Kind d → All Kind (p ++ d ∷ q)
  with-one [] q a o x h = ⊎_elim (λ e. rw e o) (λ t. a x t) (Memᴰ.cases_cons h)
  with-one (y ∷ p) q a o x h = ⊎_elim (λ e. rw e (first_of a)) (λ t. with-one p q (rest_of a) o x t) (Memᴰ.cases_cons h)

-- A list after another.
module _ {E : Type 0} (m : Machine E) where
  after-append : (r : m.State) (p q : List E) → after m r (p ++ q) ≡ after m (after m r p) q
  unfolding after
  after-append r [] q = refl
  after-append r (d ∷ p) q = after-append (m.step r d) p q

  delivered-append : (r : m.State) (p q : List E) → delivered m r (p ++ q) ≡ delivered m r p ++ delivered m (after m r p) q
  unfolding after delivered
  delivered-append r [] q = refl
  delivered-append r (d ∷ p) q = rw (delivered-append (m.step r d) p q) (sym (append_assoc (m.gives r d) _ _))

-- What is to be shown of one step, and what follows for a list. Inv is what holds of the receiver at every step; Behind r q
-- says that q has got at least as far as r.
module _ {E : Type 0} (m : Machine E) (s : Session) (Kind : E → Type 0) where
  pub record Keeps (Inv : m.State → Type 0) (Behind : m.State → m.State → Type 0) : Type 0 where
    pub in-range : (r : m.State) → Inv r → (1 ≤ m.number r) × (m.number r ≤ last_of s + 1)
    pub kept : (r : m.State) (d : E) → Inv r → Kind d → Inv (m.step r d)
    pub rises : (r : m.State) (d : E) → Inv r → Kind d → m.number r ≤ m.number (m.step r d)
    pub exact : (r : m.State) (d : E) → Inv r → Kind d →
        m.gives r d ≡ messages_from s (m.number r) (m.number (m.step r d))
    pub ahead : (r : m.State) (d : E) → Inv r → Kind d → Behind r (m.step r d)
    pub still-behind : (r q : m.State) (d : E) → Inv r → Inv q → Behind r q → Kind d →
        Behind (m.step r d) (m.step q d)
    pub behind-number : (r q : m.State) → Behind r q → m.number r ≤ m.number q
    pub behind-ended : (r q : m.State) → Behind r q → m.ended r ≡ true → m.ended q ≡ true

  module _ (Inv : m.State → Type 0) (Behind : m.State → m.State → Type 0) (k : Keeps Inv Behind) where
    pub inv-after : (r : m.State) (ds : List E) → Inv r → All Kind ds → Inv (after m r ds)
    unfolding after
    inv-after r [] i a = i
    inv-after r (d ∷ ds) i a = inv-after (m.step r d) ds (k.kept r d i (first_of a)) (rest_of a)

    pub rises-after : (r : m.State) (ds : List E) → Inv r → All Kind ds → m.number r ≤ number_after m r ds
    unfolding after
    rises-after r [] i a = omega arith
    rises-after r (d ∷ ds) i a =
        omega (
          arith,
          k.rises r d i (first_of a),
          rises-after (m.step r d) ds (k.kept r d i (first_of a)) (rest_of a),
        )

    pub exact-after : (r : m.State) (ds : List E) → Inv r → All Kind ds →
        delivered m r ds ≡ messages_from s (m.number r) (number_after m r ds)
    unfolding after delivered
    exact-after r [] i a = sym (none_from s (m.number r))
    exact-after r (d ∷ ds) i a =
        let o = first_of a in
        let j = k.kept r d i o in
        rw (k.exact r d i o, exact-after (m.step r d) ds j (rest_of a))
        (join s _ _ _ (k.in-range r i).0 (k.rises r d i o) (rises-after (m.step r d) ds j (rest_of a)))

    pub behind-after : (r q : m.State) (ds : List E) → Inv r → Inv q → Behind r q → All Kind ds →
        Behind (after m r ds) (after m q ds)
    unfolding after
    behind-after r q [] i j b a = b
    behind-after r q (d ∷ ds) i j b a =
        let o = first_of a in
        behind-after (m.step r d) (m.step q d) ds (k.kept r d i o) (k.kept q d j o) (k.still-behind r q d i j b o) (rest_of a)

    behind-longer : (r : m.State) → Inv r → (p q : List E) (d : E) → All Kind (p ++ q) → Kind d →
        Behind (after m r (p ++ q)) (after m r (p ++ d ∷ q))
    unfolding after
    behind-longer r i p q d a o =
        let j = inv-after r p i (left-of p q a) in
        rw (after-append m r p q, after-append m r p (d ∷ q))
        (behind-after (after m r p) (m.step (after m r p) d) q j (k.kept _ d j o) (k.ahead _ d j o) (right_of p q a))

-- Condition 3 for a receiver of datagrams.
module _ (m : Machine Datagram) (s : Session) (Inv : m.State → Type 0) (Behind : m.State → m.State → Type 0)
    (k : Keeps m s (OfKind s) Inv Behind) where
  delivers_true : (r : m.State) → Inv r → (ds : List Datagram) → AllOfKind s ds → DeliversTrue m s (m.number r) r ds
  delivers_true r i ds a =
      record {
        from_start = rises-after m s (OfKind s) Inv Behind k r ds i a;
        to_last = (k.in-range (after m r ds) (inv-after m s (OfKind s) Inv Behind k r ds i a)).1;
        exactly = exact-after m s (OfKind s) Inv Behind k r ds i a;
      }

  delivered-length : (r : m.State) → Inv r → (ds : List Datagram) → AllOfKind s ds →
      length (delivered m r ds) ≡ number_after m r ds - m.number r
  delivered-length r i ds a =
      let t = delivers_true r i ds a in
      ap length t.exactly ∙ length_from s _ _ (k.in-range r i).0 t.from_start t.to_last

  pub faithful : (r : m.State) → Inv r → Faithful m s (m.number r) r [] []
  faithful r i =
      record {
        delivers_true = delivers_true r i;
        one_more = λ p q d a o.
            let b = behind-longer m s (OfKind s) Inv Behind k r i p q d a o in
            let n = k.behind-number _ _ b in
            let l = delivered-length r i (p ++ q) a in
            let h = delivered-length r i (p ++ d ∷ q) (with-one p q a o) in
            record {
              as_many = omega arith;
              ended_too = k.behind-ended _ _ b;
            };
      }

-- A receiver that stays as it is over the refused, and of which the first makes what it makes of another one: condition 3 of
-- that one is its own, from the first on.
module _ (m : Machine Datagram) (s : Session) (start : ℕ) (r q : m.State) (refused : List Datagram) (d : Datagram)
    (stays : after m r refused ≡ r) (nothing : delivered m r refused ≡ []) (step : m.step r d ≡ m.step q d)
    (gives : m.gives r d ≡ m.gives q d) where
  pub led-after : (ds : List Datagram) → after m r (refused ++ d ∷ ds) ≡ after m q (d ∷ ds)
  unfolding after
  led-after ds = after-append m r refused (d ∷ ds) ∙ rw (stays, step) refl

  led-delivered : (ds : List Datagram) → delivered m r (refused ++ d ∷ ds) ≡ delivered m q (d ∷ ds)
  unfolding delivered
  led-delivered ds = delivered-append m r refused (d ∷ ds) ∙ rw (nothing, stays, step, gives) refl

  pub led : Faithful m s start q [] [] → Faithful m s start r refused (d ∷ [])
  led f =
      record {
        delivers_true = λ ds a.
            let t = f.delivers_true (d ∷ ds) a in
            let n = ap m.number (led-after ds) in
            record {
              from_start = rw n t.from_start;
              to_last = rw n t.to_last;
              exactly = led-delivered ds ∙ t.exactly ∙ ap (messages_from s start) (sym n);
            };
        one_more = λ before rest x a o.
            let t = f.one_more (d ∷ before) rest x a o in
            record {
              as_many = rw (led-delivered (before ++ rest), led-delivered (before ++ x ∷ rest)) t.as_many;
              ended_too = λ e.
                  ap m.ended (led-after (before ++ x ∷ rest))
                  ∙ t.ended_too (sym (ap m.ended (led-after (before ++ rest))) ∙ e);
            };
      }
