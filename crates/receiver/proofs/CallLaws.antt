-- Calls of `take` one after the other go the way of the receiver of the table, so condition 3 holds of what they return.
use Prim.Native.Nat.{ℕ}
use mathlib.Core.Path.{◌≡◌, refl, sym, ◌∙◌, subst}
use mathlib.Core.List.{List}
use Rattle.receiver.specs.declared.receiver.Receiver.{Receiver}
use Rattle.feed.specs.Session.{Message, Datagram, Session}
use Rattle.feed.specs.Machine.{after, delivered}
use Rattle.feed.specs.Faithful.{Opens, Faithful}
use Rattle.receiver.specs.Receiver.{refusal_for, start_receiver}
use Rattle.receiver.specs.Condition3.{Condition3For, plain}
use Rattle.receiver.specs.Calls.{Calls, none, call, StartCall, CallsDeliverTrue}
use Rattle.receiver.proofs.ConditionLaws.{condition_3}

-- the receiver that the last call returned, and what was delivered
record Runs (r : Receiver) (ds : List Datagram) (x : Receiver) (ms : List Message) : Type 0 where
  ends_at : after plain r ds ≡ x
  gives : delivered plain r ds ≡ ms

runs : {r x : Receiver} {ds : List Datagram} {ms : List Message} → Calls r ds x ms → Runs r ds x ms
unfolding after delivered
runs none = record { ends_at = refl; gives = refl }
runs (call t c cs) =
    let i = runs cs in
    record {
      ends_at = rw (← c.1) i.ends_at;
      gives = rw (← c.1, ← c.0, i.gives);
    }

start-faithful : (s : Session) (start : ℕ) (r : Receiver) (refused naming : List Datagram) → StartCall s start r refused naming → Faithful plain s start r refused naming
unfolding Condition3For
start-faithful s start r refused naming c =
    let fresh : r ≡ start_receiver c.name start c.limit = c.leaves ∙ c.call.1 in
    rw fresh
    (condition_3 s c.name start c.limit refused naming (sym c.call.0 ∙ c.not_refused) c.from_one c.to_past_last
    (subst (λ (x : Receiver). Opens s c.name (refusal_for x) refused naming) fresh c.opens))

pub calls-deliver-true : CallsDeliverTrue
calls-deliver-true =
    record {
      delivers_true = λ s start r x refused naming ds ms c all cs.
          let f = (start-faithful s start r refused naming c).delivers_true ds all in
          let i = runs cs in
          record {
            from_start = rw (← i.ends_at) f.from_start;
            to_last = rw (← i.ends_at) f.to_last;
            exactly = rw (← i.gives, ← i.ends_at) f.exactly;
          };
      one_more = λ s start r x y refused naming before rest d ms ns c all o cs cs'.
          let f = (start-faithful s start r refused naming c).one_more before rest d all o in
          let i = runs cs in
          let j = runs cs' in
          record {
            as_many = rw (← i.gives, ← j.gives) f.as_many;
            ended_too = rw (← i.ends_at, ← j.ends_at) f.ended_too;
          };
    }
