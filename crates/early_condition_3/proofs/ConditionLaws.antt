-- Condition 3 holds of the receiver that keeps early messages: of one that has the session's name, and of one that learns it.
use Prim.Native.Nat.{ℕ, ◌+◌, ◌-◌, ◌≤◌}
use mathlib.Core.Path.{◌≡◌, refl, sym, ap, ◌∙◌}
use mathlib.Core.List.{List, [], ◌∷◌, ◌++◌}
use mathlib.Core.Bool.{false, true≢false}
use lib.ListN.{length, take}
use Rattle.wire.specs.Bounds.{blank}
use Rattle.moldudp64.specs.Downstream.{kind_of}
use Rattle.receiver.specs.declared.receiver.Receiver.{Receiver}
use Rattle.receiver.specs.Receiver.{receiver, name_by, refusal_for}
use Rattle.receiver.proofs.StartLaws.{started}
use Rattle.receiver.proofs.LadderLaws.{own_name}
use Rattle.receiver.proofs.TableLaws.{row-after}
use Rattle.receiver.proofs.Promises.{names-it, also-open, receiver-promises}
use Rattle.feed.specs.Session.{Datagram, Session, last_of, All, AllOfKind, OfKind}
use Rattle.feed.specs.Machine.{after, delivered}
use Rattle.feed.specs.Faithful.{Opens, on_its_name, learns_it, Faithful}
use Rattle.feed.proofs.FeedLaws.{first_of, rest_of, faithful, led, led-after, inv-after}
use Rattle.early_holding.specs.Holding.{Lent, lent, early, next_of, is_held, held_message}
use Rattle.early_receiver.specs.Early.{start_early, early_refusal, named_lent, take_kind, lent_after}
use Rattle.early_messages.specs.Delivery.{delivered_count, message_with, delivery}
use Rattle.early_receiver.proofs.RequestLaws.{after_open}
use Rattle.early_condition_3.specs.Condition3.{keeper, EarlyCondition3For, EarlyCondition3}
use Rattle.early_messages.proofs.ReachLaws.{right-refusal, refused-after}
use Rattle.early_condition_3.proofs.StepLaws.{name-kept, empty-sound}
use Rattle.early_condition_3.proofs.PlaceLaws.{still-none, same-delivery}
use Rattle.early_condition_3.proofs.NamedLaws.{Inv, Behind, empty-inv, keeps}

-- what is refused changes and delivers nothing

pub record ChangesNothing (r : Lent) (ds : List Datagram) : Type 0 where
  pub stays : after keeper r ds ≡ r
  pub nothing : delivered keeper r ds ≡ []

pub refused_all : (r : Lent) (ds : List Datagram) → All (λ d. early_refusal r d ≡ 0 → ⊥) ds → ChangesNothing r ds
unfolding after delivered
refused_all r [] a = record { stays = refl; nothing = refl }
refused_all r (d ∷ ds) a =
    let z = refused-after r d (first_of a) in
    let g = still-none r d (ap (λ (x : Lent). next_of x.receiver) z) in
    let rest = refused_all r ds (rest_of a) in
    record { stays = rw z rest.stays; nothing = rw (g, z) rest.nothing }

-- ---- a receiver that has the session's name, and one that learns it

module _ (s : Session) (start limit : ℕ) (lengths slots : List ℕ) (named : s.name ≡ blank → ⊥) (h : 1 ≤ start) (l : start ≤ last_of s + 1)
    (g : length lengths ≡ 128) (k : length slots ≡ 65536) where
  abbrev pub fresh : Lent
  fresh = lent (early (receiver s.name start limit false) 0) lengths slots

  pub fresh-inv : Inv s named fresh
  fresh-inv =
      record {
        name = refl;
        sound = empty-sound fresh.receiver.base lengths slots g k;
        hold = empty-inv s named fresh.receiver.base lengths slots h l;
        at-end = λ x. absurd (true≢false (sym x));
      }

  on-name : Faithful keeper s start fresh [] []
  on-name = faithful keeper s (Inv s named) (Behind s named) (keeps s named) fresh fresh-inv

  abbrev pub unnamed : Lent
  unnamed = lent (early (receiver blank start limit false) 0) lengths slots

  -- the naming datagram does to the unnamed receiver what it does to one of its name
  module _ (d : Datagram) (e : refusal_for unnamed.receiver.base d ≡ 0) (n : take 10 d ≡ s.name) where
    learned : name_by blank d ≡ s.name
    learned =
        sym (ap (λ (x : Receiver). x.session) (row-after unnamed.receiver.base d e))
        ∙ (receiver-promises.keeps_settings.learns unnamed.receiver.base d refl e).its_name
        ∙ n

    pub names : named_lent unnamed d ≡ fresh
    names = ap (λ (x : List ℕ). lent (early (receiver x start limit false) 0) lengths slots) learned

    pub accepts-too : refusal_for fresh.receiver.base d ≡ 0
    accepts-too = also-open unnamed.receiver.base fresh.receiver.base d e refl refl (own_name fresh.receiver.base d named n)

    pub same_after : lent_after unnamed d ≡ lent_after fresh d
    same_after =
        after_open unnamed d (right-refusal unnamed d k g ∙ e)
        ∙ ap (λ (x : Lent). take_kind x (kind_of d) d) (names ∙ sym (name-kept fresh d named))
        ∙ sym (after_open fresh d (right-refusal fresh d k g ∙ accepts-too))

    same_count : delivered_count unnamed d ≡ delivered_count fresh d
    unfolding delivered_count
    same_count = ap (λ (x : Lent). next_of x.receiver - start) same_after

    same-with : (j : ℕ) → message_with unnamed d j ≡ message_with fresh d j
    unfolding message_with is_held held_message
    same-with j = refl

    pub same_gives : delivery unnamed d ≡ delivery fresh d
    same_gives = same-delivery unnamed fresh d refl same_count same-with

    pub on-learning : (refused : List Datagram) → ChangesNothing unnamed refused → Faithful keeper s start unnamed refused (d ∷ [])
    on-learning refused c = led keeper s start unnamed fresh refused d c.stays c.nothing same_after same_gives on-name

    -- what a list leaves of the one is what it leaves of the other
    pub learned-inv : (refused ds : List Datagram) → ChangesNothing unnamed refused → AllOfKind s (d ∷ ds)
        → Inv s named (after keeper unnamed (refused ++ d ∷ ds))
    learned-inv refused ds c a =
        rw (led-after keeper s start unnamed fresh refused d c.stays c.nothing same_after same_gives ds)
        (inv-after keeper s (OfKind s) (Inv s named) (Behind s named) (keeps s named) fresh (d ∷ ds) fresh-inv a)

pub early-condition-3 : EarlyCondition3
unfolding EarlyCondition3For start_early
early-condition-3 s name start limit lengths slots refused naming e h l g k o =
    rw (started name start limit e) (by-opening (rw (started name start limit e) at o))
  where
    by-opening : {refused naming : List Datagram} → Opens s name (early_refusal (lent (early (receiver name start limit false) 0) lengths slots)) refused naming
        → Faithful keeper s start (lent (early (receiver name start limit false) 0) lengths slots) refused naming
    by-opening (on_its_name b n) = rw n (on-name s start limit lengths slots b h l g k)
    by-opening (learns_it {refused} {d} n a f m) =
        let r : Lent = lent (early (receiver blank start limit false) 0) lengths slots in
        let x : refusal_for r.receiver.base d ≡ 0 = sym (right-refusal r d k g) ∙ (rw n at f) in
        let b : s.name ≡ blank → ⊥ = λ y. names-it r.receiver.base d x refl (m ∙ y) in
        rw n (on-learning s start limit lengths slots b h l g k d x m refused (refused_all r refused (rw n at a)))
