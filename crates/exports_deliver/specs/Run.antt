-- A host that hands datagrams to `eiderwagon_receiver_deliver` one by one, keeps the state's bytes between two calls,
-- and takes the messages at the places that each call lays. The record of a call is the very promise of the function.
use Rattle.std.specs.Prelude.{ℕ, ◌*◌, ◌≤◌, List, [], ◌∷◌, ◌++◌, ◌≡◌, length, get_or, take}
use Rattle.wire.specs.Bytes.{AreBytes}
use Rattle.feed.specs.Session.{Datagram, Message}
use Rattle.feed.specs.Machine.{after, delivered}
use Rattle.receiver.specs.Condition3.{plain}
use Rattle.host_receiver.specs.Receiver.{receiver_size, receiver_in}
use Rattle.exports_deliver.specs.Places.{parts_at, most_places}
use Rattle.exports_deliver.specs.Calls.{DeliversDatagram}

-- what a host gets by a call that returned r and laid the words ws and the places ps: where the first word is 1,
-- deliver, the parts at two places for each message that the third word counts
pub data Gets (d : Datagram) (r : ℕ) (ws ps : List ℕ) : List Message → Type 0 where
  by_refusal : (r ≡ 0 → ⊥) → Gets d r ws ps []
  by_another : r ≡ 0 → (get_or ws 0 0 ≡ 1 → ⊥) → Gets d r ws ps []
  by_deliver : r ≡ 0 → get_or ws 0 0 ≡ 1 → Gets d r ws ps (parts_at (take (2 * get_or ws 2 0) ps) d)

-- a call that is lent its four words and enough places: the state's bytes l become m, and the host gets the messages ms
pub record DeliverCall (l : List ℕ) (d : Datagram) (m : List ℕ) (ms : List Message) : Type 0 where
  pub are_bytes : AreBytes d
  pub code : ℕ
  pub words : List ℕ
  pub laid : List ℕ
  pub places : List ℕ
  pub places_laid : List ℕ
  pub room : 4 ≤ length words
  pub places_room : most_places ≤ length places
  pub call : DeliversDatagram code l m d words laid places places_laid
  pub gets : Gets d code laid places_laid ms

-- a list of datagrams: the first call is lent the bytes l, each later one those that the call before left, and the
-- last leaves m; the host gets the messages ms
pub data Handed : List ℕ → List Datagram → List ℕ → List Message → Type 0 where
  none : {l : List ℕ} → Handed l [] l []
  one : {l m n : List ℕ} {d : Datagram} {ds : List Datagram} {ms ns : List Message} → DeliverCall l d m ms
      → Handed m ds n ns
      → Handed l (d ∷ ds) n (ms ++ ns)

-- the receiver in the bytes that are left, and the messages that the host got, are those of the receiver of the table
pub record Hands (l m : List ℕ) (ds : List Datagram) (ms : List Message) : Type 0 where
  pub leaves : receiver_in m ≡ after plain (receiver_in l) ds
  pub gives : ms ≡ delivered plain (receiver_in l) ds

-- so it is over every list, whatever was refused
unfoldable pub HandsOn : Type 0
HandsOn = (l m : List ℕ) (ds : List Datagram) (ms : List Message) → receiver_size ≤ length l → Handed l ds m ms
    → Hands l m ds ms
