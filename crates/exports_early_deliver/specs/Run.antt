-- A host that hands datagrams to `eiderwagon_early_deliver` one by one, keeps the state's bytes and the slots between two
-- calls, and takes the messages at the places that each call lays. The record of a call is the very promise of the
-- function.
use Rattle.std.specs.Prelude.{ℕ, ◌*◌, ◌≤◌, List, [], ◌∷◌, ◌++◌, ◌≡◌, length, get_or, take}
use Rattle.feed.specs.Session.{Datagram, Message}
use Rattle.host_early.specs.Early.{early_size}
use Rattle.exports_early.specs.Run.{Hands}
use Rattle.exports_early_deliver.specs.Places.{parts_in, most_places}
use Rattle.exports_early_deliver.specs.Calls.{DeliversLent}

-- what a host gets by a call that returned r, left the slots ss and laid the words ws and the places ps: where the first
-- word is 1, deliver, the parts at three places for each message that the third word counts
pub data Gets (ss : List ℕ) (d : Datagram) (r : ℕ) (ws ps : List ℕ) : List Message → Type 0 where
  by_refusal : (r ≡ 0 → ⊥) → Gets ss d r ws ps []
  by_another : r ≡ 0 → (get_or ws 0 0 ≡ 1 → ⊥) → Gets ss d r ws ps []
  by_deliver : r ≡ 0 → get_or ws 0 0 ≡ 1 → Gets ss d r ws ps (parts_in (take (3 * get_or ws 2 0) ps) ss d)

-- a call that is lent its seven words and enough places: the state's bytes l become m, the slots ss become st, and the
-- host gets the messages ms
pub record DeliverCall (l ss : List ℕ) (d : Datagram) (m st : List ℕ) (ms : List Message) : Type 0 where
  pub code : ℕ
  pub words : List ℕ
  pub laid : List ℕ
  pub places : List ℕ
  pub places_laid : List ℕ
  pub room : 7 ≤ length words
  pub places_room : most_places ≤ length places
  pub call : DeliversLent code l m ss st d words laid places places_laid
  pub gets : Gets st d code laid places_laid ms

-- a list of datagrams: each call is lent the bytes and the slots that the call before left
pub data Handed : List ℕ → List ℕ → List Datagram → List ℕ → List ℕ → List Message → Type 0 where
  none : {l ss : List ℕ} → Handed l ss [] l ss []
  one : {l ss m st n su : List ℕ} {d : Datagram} {ds : List Datagram} {ms ns : List Message} → DeliverCall l ss d m st ms
      → Handed m st ds n su ns
      → Handed l ss (d ∷ ds) n su (ms ++ ns)

-- over every list, whatever was refused and whatever slots are lent, the receiver and the slots that are left and the
-- messages that the host got are those of order 6's receiver
unfoldable pub HandsOn : Type 0
HandsOn = (l ss m st : List ℕ) (ds : List Datagram) (ms : List Message) → early_size ≤ length l
    → Handed l ss ds m st ms
    → Hands l ss m st ds ms
