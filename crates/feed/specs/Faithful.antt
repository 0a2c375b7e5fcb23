-- Condition 3 for a receiver of datagrams.
use Rattle.std.specs.Prelude.{ℕ, ◌+◌, ◌≤◌, ◌≡◌, List, [], ◌∷◌, ◌++◌, true, length, take}
use Rattle.wire.specs.Bounds.{session_size, blank}
use Rattle.feed.specs.Session.{Datagram, Session, last_of, messages_from, OfKind, All, AllOfKind}
use Rattle.feed.specs.Machine.{Machine, after, delivered, number_after}

-- how a list may begin for a receiver that was started on a name; `refusal` says with what the fresh receiver refuses a
-- datagram, 0 for not at all. One that was started on the session's own name, which isn't blank, may be given anything
-- at once. One that was started blank is given first any datagrams that it refuses, and then the one that names it,
-- which it accepts and which has the session's name
pub data Opens (s : Session) (name : List ℕ) (refusal : Datagram → ℕ) : List Datagram → List Datagram → Type 0 where
  on_its_name : (s.name ≡ blank → ⊥) → name ≡ s.name → Opens s name refusal [] []
  learns_it : {refused : List Datagram} {d : Datagram} → name ≡ blank
      → All (λ e. refusal e ≡ 0 → ⊥) refused
      → refusal d ≡ 0
      → take session_size d ≡ s.name
      → Opens s name refusal refused (d ∷ [])

module _ (m : Machine Datagram) where
  -- the list delivers exactly the true messages from the start number to just below the receiver's number after it
  pub record DeliversTrue (s : Session) (start : ℕ) (r : m.State) (ds : List Datagram) : Type 0 where
    pub from_start : start ≤ number_after m r ds
    pub to_last : number_after m r ds ≤ last_of s + 1
    pub exactly : delivered m r ds ≡ messages_from s start (number_after m r ds)

  -- the longer list delivers at least as many messages, and leaves the receiver ended if the shorter did
  pub record DoesNoWorse (r : m.State) (shorter longer : List Datagram) : Type 0 where
    pub as_many : length (delivered m r shorter) ≤ length (delivered m r longer)
    pub ended_too : m.ended (after m r shorter) ≡ true → m.ended (after m r longer) ≡ true

  -- condition 3 for a receiver at a start number of a session, over every list that begins with what it refused and the
  -- naming datagram: it speaks from that one on. One more datagram is put in at any place; behind the naming one, where
  -- there is one
  pub record Faithful (s : Session) (start : ℕ) (r : m.State) (refused naming : List Datagram) : Type 0 where
    pub delivers_true : (ds : List Datagram) → AllOfKind s (naming ++ ds)
        → DeliversTrue s start r (refused ++ (naming ++ ds))
    pub one_more : (before rest : List Datagram) (d : Datagram) → AllOfKind s (naming ++ (before ++ rest))
        → OfKind s d
        → DoesNoWorse r (refused ++ (naming ++ (before ++ rest))) (refused ++ (naming ++ (before ++ d ∷ rest)))
