-- Condition 3 holds of the plain receiver: of one that has the session's name, and of one that learns it.
use Prim.Native.Nat.{ℕ, ◌+◌, ◌≤◌}
use mathlib.Core.Path.{◌≡◌, refl, sym, ap, ◌∙◌}
use mathlib.Core.List.{List, [], ◌∷◌}
use mathlib.Core.Bool.{false, true≢false}
use lib.ListN.{take}
use Rattle.wire.specs.Bounds.{blank}
use Rattle.wire.specs.Words.{Words}
use Rattle.feed.specs.Session.{Datagram, Session, last_of, All}
use Rattle.feed.specs.Machine.{after, delivered}
use Rattle.feed.specs.Faithful.{Opens, on_its_name, learns_it, Faithful}
use Rattle.feed.proofs.FeedLaws.{first_of, rest_of, faithful, led}
use Rattle.receiver.specs.declared.receiver.Receiver.{Receiver}
use Rattle.receiver.specs.Table.{AnswerKind}
use Rattle.receiver.specs.Receiver.{receiver, refusal_for, table_row, after_row, answer_of, receiver_after}
use Rattle.receiver.specs.Delivery.{messages_delivered}
use Rattle.receiver.specs.Condition3.{plain, Condition3For, Condition3, ChangesNothing, RefusedChangeNothing}
use Rattle.receiver.proofs.StartLaws.{started}
use Rattle.receiver.proofs.LadderLaws.{own_name}
use Rattle.receiver.proofs.TableLaws.{row-answer, row-after, row_named}
use Rattle.receiver.proofs.Promises.{names-it, also-open, receiver-promises}
use Rattle.receiver.proofs.NamedLaws.{refusal-stays, Inv, Behind, keeps}

-- ---- a receiver that has the session's name, and one that learns it

module _ (s : Session) (start limit : ℕ) (named : s.name ≡ blank → ⊥) (h : 1 ≤ start) (l : start ≤ last_of s + 1) where
  abbrev fresh : Receiver
  fresh = receiver s.name start limit false

  on-name : Faithful plain s start fresh [] []
  on-name =
      faithful plain s (Inv s named) (Behind s named) (keeps s named) fresh
      (record { name = refl; from_one = h; to_last = l; at-end = λ x. absurd (true≢false (sym x)) })

  abbrev unnamed : Receiver
  unnamed = receiver blank start limit false

  -- the naming datagram does to the unnamed receiver what it does to one of its name
  module _ (d : Datagram) (e : refusal_for unnamed d ≡ 0) (n : take 10 d ≡ s.name) where
    accepts-too : refusal_for fresh d ≡ 0
    accepts-too = also-open unnamed fresh d e refl refl (own_name fresh d named n)

    same_after : receiver_after unnamed d ≡ receiver_after fresh d
    same_after =
        let name = (receiver-promises.keeps_settings.learns unnamed d refl e).its_name ∙ n in
        row-after unnamed d e ∙ ap (λ (x : List ℕ). after_row (receiver x start limit false) (table_row unnamed d)) (sym (ap (λ (x : Receiver). x.session) (row-after unnamed d e)) ∙ name)
        ∙ sym (row_named fresh d named accepts-too)

    same_answer : answer_of unnamed d ≡ answer_of fresh d
    same_answer = row-answer unnamed d e ∙ sym (row-answer fresh d accepts-too)

refused_all : (r : Receiver) (ds : List Datagram) → All (λ d. refusal_for r d ≡ 0 → ⊥) ds → ChangesNothing r ds
unfolding after delivered
refused_all r [] a = record { stays = refl; nothing = refl }
refused_all r (d ∷ ds) a =
    let z = refusal-stays r d (first_of a) in
    let rest = refused_all r ds (rest_of a) in
    record { stays = rw z.same rest.stays; nothing = rw (z.nothing, z.same) rest.nothing }

pub refused-change-nothing : RefusedChangeNothing
unfolding RefusedChangeNothing
refused-change-nothing = refused_all

pub condition_3 : Condition3
unfolding Condition3For
condition_3 s name start limit refused naming e h l o = rw (started name start limit e) (by-opening (rw (started name start limit e) at o))
  where
    by-opening : {refused naming : List Datagram} → Opens s name (refusal_for (receiver name start limit false)) refused naming
        → Faithful plain s start (receiver name start limit false) refused naming
    by-opening (on_its_name b n) = rw n (on-name s start limit b h l)
    by-opening (learns_it {refused} {d} n a f m) =
        let g : refusal_for (receiver blank start limit false) d ≡ 0 = rw n at f in
        let b : s.name ≡ blank → ⊥ = λ e. names-it (receiver blank start limit false) d g refl (m ∙ e) in
        let c = refused_all _ refused (rw n at a) in
        rw n
        (led plain s start (unnamed s start limit b h l) (fresh s start limit b h l) refused d c.stays c.nothing (same_after s start limit b h l d g m)
        (ap (λ (x : Words AnswerKind). messages_delivered x d) (same_answer s start limit b h l d g m)) (on-name s start limit b h l))
