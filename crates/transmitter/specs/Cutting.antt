-- A run of messages cut into the groups that packets hold: ms are the messages, in order, and room is what a packet's
-- size leaves for blocks.
use Rattle.std.specs.Prelude.{ℕ, zero, suc, ◌≤◌, ◌<◌, List, [], ◌∷◌, ◌++◌, ◌≡◌, length, get_or, take, drop}
use Rattle.moldudp64.specs.Blocks.{blocks_of}
use Rattle.moldudp64_writer.specs.Writer.{lengths_of}
use Rattle.packing.specs.Fit.{most_that_fit, Most}

abbrev pub Message : Type 0
Message = List ℕ

-- the messages of a packet
abbrev pub Group : Type 0
Group = List Message

-- ---- the cutting: each packet takes the most that fit

unfoldable pub taken : ℕ → List Message → ℕ
taken room ms = most_that_fit room (lengths_of ms)

-- at most f packets: a run of f messages has no more
unfoldable pub cut_up_to : ℕ → ℕ → List Message → List Group
cut_up_to zero room ms = []
cut_up_to (suc f) room [] = []
cut_up_to (suc f) room (m ∷ ms) =
    take (taken room (m ∷ ms)) (m ∷ ms) ∷ cut_up_to f room (drop (taken room (m ∷ ms)) (m ∷ ms))

unfoldable pub cutting : ℕ → List Message → List Group
cutting room ms = cut_up_to (length ms) room ms

-- ---- any cutting

-- the messages of all groups, in order
unfoldable pub flat : List Group → List Message
flat [] = []
flat (g ∷ gs) = g ++ flat gs

-- how many messages stand before the group at a place
abbrev pub start_of : List Group → ℕ → ℕ
start_of gs i = length (flat (take i gs))

-- the group at a place: no messages where there is none
abbrev pub group_at : List Group → ℕ → Group
group_at gs i = get_or gs i []

-- a cutting under a size: in order, each message once, none split, and each group fits
pub record CuttingUnder (room : ℕ) (ms : List Message) (gs : List Group) : Type 0 where
  pub whole : flat gs ≡ ms
  pub each_fits : (i : ℕ) → length (blocks_of (group_at gs i)) ≤ room

-- each group takes the most that fit of what is left
abbrev pub TakesTheMost : ℕ → List Message → List Group → Type 0
TakesTheMost room ms gs = (i : ℕ) → i < length gs
    → Most room (lengths_of (drop (start_of gs i) ms)) (length (group_at gs i))

-- no group is empty, so that no packet is a heartbeat
abbrev pub NoneEmpty : List Group → Type 0
NoneEmpty gs = (i : ℕ) → i < length gs → 1 ≤ length (group_at gs i)
