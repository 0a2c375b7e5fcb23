-- What the exported store refuses.
use Rattle.std.specs.Prelude.{ℕ, List, length, eqb, if◌then◌else◌}
use Rattle.wire.specs.Bounds.{session_size}
use Rattle.wire.specs.Refusals.{output_short}
use Rattle.moldudp64.specs.Request.{request_refusal}
use Rattle.store.specs.Store.{Store, store_ground, answer_ground}
use Rattle.host_answers.specs.Answers.{or_else}

-- 53 needs the store's name: one that isn't ten bytes is 41 in its place, and so are the grounds behind it
unfoldable pub named_store : List ℕ → Store → ℕ → List ℕ → ℕ
named_store name st size q =
    if eqb (length name) session_size then answer_ground st size q
    else or_else (or_else (store_ground st size) (request_refusal q)) output_short
