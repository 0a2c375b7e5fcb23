-- Laws of the scan: its definition goes on by one packet, and what holds at the head of its loop over packets.
use mathlib.Core.Path.{◌≡◌, refl, ap, sym, ◌∙◌}
use mathlib.Core.List.{List, [], ◌∷◌}
use mathlib.Core.Bool.{Bool, true, false, not}
use Prim.Native.Nat.{ℕ, zero, suc, ◌+◌, ◌-◌, ◌≤◌, ◌<◌}
use native.Mathlib.Omega.{arith}
use native.Mathlib.Numerals.{add-one}
use lib.ListN.{length, get_or, take, drop, length-drop, drop_of_length-le}
use lib.Seq.{drop-cons, drop-drop}
use lib.Dec.{ltb, eqb}
use mir.Val.{Fits}
use mir.Syntax.{w64}
use borrow.Author.Tests.{ltb-false, eqb-false, lt-ltb, not-true, not-false}
use Rattle.std.specs.Prelude.{if◌then◌else◌, Option, Some, None, is_some}
use Rattle.wire.specs.Refusals.{length_zero, payload_long, letter_not_sent, length_wrong, field_bad}
use Rattle.wire.specs.Words.{Words, Case, answer, refused, says, refuses}
use Rattle.wire.specs.declared.refusal.Refusal.{Refusal}
use Rattle.wire.proofs.Words.{which-of, values-of, read_back}
use Rattle.wire.proofs.Numbers.{part_to_end}
use Rattle.text_fields.specs.declared.session.SessionState.{SessionState}
use Rattle.text_fields.specs.declared.session.SessionState.TheVariants.{Blank, Bad}
use Rattle.text_fields.specs.declared.number.NumberState.{NumberState}
use Rattle.text_fields.specs.declared.number.NumberState.TheVariants as counting
use Rattle.wire.specs.declared.kinds.SequenceNumber.{SequenceNumber}
use Rattle.text_fields.specs.Letters.{are_letters_or_digits, leading_spaces}
use Rattle.text_fields.specs.Session.{session_step, session_from, session_good, good_session}
use Rattle.text_fields.specs.Number.{bad, number_step, number_from, number_good, number_words, read_number}
use Rattle.text_fields.proofs.FoldLaws.{session-fold, number-fold}
use Rattle.soupbintcp.specs.declared.packet.Sender.{Sender}
use Rattle.soupbintcp.specs.declared.packet.Packet.{Packet}
use Rattle.soupbintcp.specs.declared.head.Head.{Head}
use Rattle.soupbintcp.specs.declared.head.Head.TheVariants.{Whole, NeedMore, Refused}
use Rattle.soupbintcp.specs.Letters.{PacketKind, packet_kind, packet_values, most_payload, sends, allows}
use Rattle.soupbintcp.specs.Head.{packet_length, letter_of, whole, need_more, head_words, head_of}
use Rattle.soupbintcp.specs.Fields.{has_fields, session_bytes, number_bytes, blank_allowed, least_number_of, FieldsKind, good, bad_field, fields_words, number_fields, with_number, fields_at, fields_of}
use Rattle.soupbintcp.specs.Front.{packet, wants_more, front_packet, front_at, front_of}
use Rattle.soupbintcp.specs.Scan.{StopKind, stopped_short, stop_words, Scan, stops, behind, scan_at, scan_up_to, scan_of, Scans, StopsApart, StopsBy, by_short, by_refusal, ScanPromises}

-- ---- what the head is

pub data HeadIs (s : Sender) (l : List ℕ) : Type 0 where
  short : head_of s l ≡ says need_more [] → HeadIs s l
  fault : (r : ℕ) → head_of s l ≡ refuses r → HeadIs s l
  all : head_of s l ≡ says whole ((packet_length l + 2) ∷ []) → 3 ≤ packet_length l + 2 → packet_length l + 2 ≤ length l → HeadIs s l

above : (n : ℕ) → (n ≡ 0 → ⊥) → 3 ≤ n + 2
above zero z = absurd (z refl)
above (suc n) z = omega arith

unfolded : (s : Sender) (l : List ℕ)
    → head_of s l
    ≡ (if ltb (length l) 2 then says need_more []
    else if eqb (packet_length l) 0 then refuses length_zero
    else if ltb most_payload (packet_length l - 1) then refuses payload_long
    else if ltb (length l) 3 then says need_more []
    else if not (sends s (letter_of l)) then refuses letter_not_sent
    else if not (allows (letter_of l) (packet_length l - 1)) then refuses length_wrong
    else if ltb (length l) (packet_length l + 2) then says need_more []
    else says whole ((packet_length l + 2) ∷ []))
unfolding head_of
unfolded s l = refl

pub head-is : (s : Sender) (l : List ℕ) → HeadIs s l
head-is s l =
    go (ltb (length l) 2) (eqb (packet_length l) 0) (ltb most_payload (packet_length l - 1)) (ltb (length l) 3) (not (sends s (letter_of l)))
    (not (allows (letter_of l) (packet_length l - 1))) (ltb (length l) (packet_length l + 2)) refl refl (unfolded s l)
  where
    go : (a b c d e f g : Bool) → eqb (packet_length l) 0 ≡ b → ltb (length l) (packet_length l + 2) ≡ g
        → head_of s l
        ≡ (if a then says need_more []
        else if b then refuses length_zero
        else if c then refuses payload_long
        else if d then says need_more []
        else if e then refuses letter_not_sent
        else if f then refuses length_wrong
        else if g then says need_more []
        else says whole ((packet_length l + 2) ∷ []))
        → HeadIs s l
    go true b c d e f g p q h = short h
    go false true c d e f g p q h = fault length_zero h
    go false false true d e f g p q h = fault payload_long h
    go false false false true e f g p q h = short h
    go false false false false true f g p q h = fault letter_not_sent h
    go false false false false false true g p q h = fault length_wrong h
    go false false false false false false true p q h = short h
    go false false false false false false false p q h = all h (above (packet_length l) (eqb-false _ _ p)) (ltb-false _ _ q)

-- ---- what the front is

module _ (s : Sender) (l : List ℕ) where
  pub front-short : head_of s l ≡ says need_more [] → front_of s l ≡ says wants_more []
  unfolding front_of front_at
  front-short e = rw e

  pub front-fault : (r : ℕ) → head_of s l ≡ refuses r → front_of s l ≡ refuses r
  unfolding front_of front_at
  front-fault r e = rw e

  whole-front : (k : ℕ) → head_of s l ≡ says whole (k ∷ []) → front_of s l ≡ front_packet k (fields_of l).which (fields_of l).values
  unfolding front_of front_at
  whole-front k e = rw e

  pub front-packet : (k : ℕ) (p : PacketKind) (vs : List ℕ) → head_of s l ≡ says whole (k ∷ []) → fields_of l ≡ says (good p) vs
      → front_of s l ≡ says (packet p) (k ∷ vs)
  unfolding front_packet
  front-packet k p vs e f = whole-front k e ∙ rw f

  pub front-bad : (k : ℕ) → head_of s l ≡ says whole (k ∷ []) → fields_of l ≡ says bad_field [] → front_of s l ≡ refuses field_bad
  unfolding front_packet
  front-bad k e f = whole-front k e ∙ rw f

pub data FrontIs (s : Sender) (l : List ℕ) : Type 0 where
  stops-short : front_of s l ≡ says wants_more [] → FrontIs s l
  stops_at : (r : ℕ) → front_of s l ≡ refuses r → FrontIs s l
  passes : (p : PacketKind) (k : ℕ) (vs : List ℕ) → front_of s l ≡ says (packet p) (k ∷ vs) → 3 ≤ k → k ≤ length l → FrontIs s l

whole_is : (s : Sender) (l : List ℕ) (k : ℕ) (w : Case FieldsKind) (vs : List ℕ) → front_of s l ≡ front_packet k w vs → 3 ≤ k → k ≤ length l → FrontIs s l
unfolding front_packet
whole_is s l k (answer (good p)) vs e f g = passes p k vs e f g
whole_is s l k (answer bad_field) vs e f g = stops_at field_bad e
whole_is s l k refused vs e f g = stops_at field_bad e

pub front-is : (s : Sender) (l : List ℕ) → FrontIs s l
front-is s l = go (head-is s l)
  where
    go : HeadIs s l → FrontIs s l
    go (short e) = stops-short (front-short s l e)
    go (fault r e) = stops_at r (front-fault s l r e)
    go (all e f g) = whole_is s l (packet_length l + 2) (fields_of l).which (fields_of l).values (whole-front s l (packet_length l + 2) e) f g

-- a whole head's size
whole-size : (s : Sender) (l : List ℕ) (k : ℕ) → head_of s l ≡ says whole (k ∷ []) → (3 ≤ k) × (k ≤ length l)
whole-size s l k e = go (head-is s l)
  where
    go : HeadIs s l → (3 ≤ k) × (k ≤ length l)
    go (short f) = let w = which-of (sym f ∙ e) in let z : ◌≡◌ {A = ℕ} 0 1 = cc in absurd (omega arith)
    go (fault r f) = let w = which-of (sym f ∙ e) in let z : ◌≡◌ {A = ℕ} 0 1 = cc in absurd (omega arith)
    go (all f a b) =
        let v : packet_length l + 2 ≡ k = ap (λ (vs : List ℕ). get_or vs 0 0) (values-of (sym f ∙ e)) in
        (omega arith, omega arith)

-- ---- the scan's definition, one packet on: the limit by which it recurses plays no part

module _ (s : Sender) (l : List ℕ) where
  upto-short : (f : ℕ) → front_of s l ≡ says wants_more [] → scan_up_to s f l ≡ stops (says stopped_short [])
  unfolding scan_up_to scan_at
  upto-short zero e = refl
  upto-short (suc f) e = rw e

  upto-at : (f r : ℕ) → front_of s l ≡ refuses r → scan_up_to s (suc f) l ≡ stops (refuses r)
  unfolding scan_up_to scan_at
  upto-at f r e = rw e

  upto-on : (f : ℕ) (p : PacketKind) (k : ℕ) (vs : List ℕ) → front_of s l ≡ says (packet p) (k ∷ vs) → scan_up_to s (suc f) l ≡ behind k (scan_up_to s f (drop k l))
  unfolding scan_up_to scan_at
  upto-on f p k vs e = rw e

front-none : (s : Sender) (l : List ℕ) → length l ≤ 0 → front_of s l ≡ says wants_more []
unfolding head_of
front-none s l h = let g : length l < 2 = omega arith in front-short s l (simp (lt-ltb _ _ g))

scan-none : (s : Sender) (f : ℕ) (l : List ℕ) → length l ≤ 0 → scan_up_to s f l ≡ stops (says stopped_short [])
scan-none s f l h = upto-short s l f (front-none s l h)

scan-limit : (s : Sender) (f g : ℕ) (l : List ℕ) → length l ≤ f → length l ≤ g → scan_up_to s f l ≡ scan_up_to s g l
scan-limit s zero g l p q = scan-none s zero l p ∙ sym (scan-none s g l p)
scan-limit s (suc f) zero l p q = scan-none s (suc f) l q ∙ sym (scan-none s zero l q)
scan-limit s (suc f) (suc g) l p q = go (front-is s l) (λ (k : ℕ) (a : 3 ≤ k) (b : k ≤ length l). scan-limit s f g (drop k l) (shorter f k a b p) (shorter g k a b q))
  where
    shorter : (f k : ℕ) → 3 ≤ k → k ≤ length l → length l ≤ suc f → length (drop k l) ≤ f
    shorter f k a b h = omega (arith, length-drop k l)

    go : FrontIs s l → ((k : ℕ) → 3 ≤ k → k ≤ length l → scan_up_to s f (drop k l) ≡ scan_up_to s g (drop k l)) → scan_up_to s (suc f) l ≡ scan_up_to s (suc g) l
    go (stops-short e) i = upto-short s l (suc f) e ∙ sym (upto-short s l (suc g) e)
    go (stops_at r e) i = upto-at s l f r e ∙ sym (upto-at s l g r e)
    go (passes n k vs e a b) i = upto-on s l f n k vs e ∙ ap (behind k) (i k a b) ∙ sym (upto-on s l g n k vs e)

module _ (s : Sender) (l : List ℕ) where
  more : scan_of s l ≡ scan_up_to s (suc (length l)) l
  unfolding scan_of
  more = scan-limit s (length l) (suc (length l)) l (omega arith) (omega arith)

  scan-short : front_of s l ≡ says wants_more [] → scan_of s l ≡ stops (says stopped_short [])
  scan-short e = more ∙ upto-short s l (suc (length l)) e

  scan-at : (r : ℕ) → front_of s l ≡ refuses r → scan_of s l ≡ stops (refuses r)
  scan-at r e = more ∙ upto-at s l (length l) r e

  scan-on : (p : PacketKind) (k : ℕ) (vs : List ℕ) → front_of s l ≡ says (packet p) (k ∷ vs) → scan_of s l ≡ behind k (scan_of s (drop k l))
  unfolding scan_of
  scan-on p k vs e =
      more ∙ upto-on s l (length l) p k vs e
      ∙ ap (behind k) (scan-limit s (length l) (length (drop k l)) (drop k l) (omega (arith, length-drop k l)) (omega arith))

-- ---- the head of the loop over packets: l₀ is the stream, l what is left of it after p packets of b bytes

pub record Going (s : Sender) (l₀ l : List ℕ) (p b : ℕ) : Type 0 where
  pub bound : b + length l ≡ length l₀
  pub few : p ≤ b
  pub packets : p + (scan_of s l).packets ≡ (scan_of s l₀).packets
  pub bytes : b + (scan_of s l).bytes ≡ (scan_of s l₀).bytes
  pub stop : (scan_of s l).stop ≡ (scan_of s l₀).stop

pub going_start : (s : Sender) (l₀ : List ℕ) → Going s l₀ l₀ 0 0
going_start s l₀ = record { bound = omega arith; few = omega arith; packets = omega arith; bytes = omega arith; stop = refl }

stop-so : {s : Sender} {l₀ l : List ℕ} {p b : ℕ} (x : Option Refusal) (w : Words StopKind) → Going s l₀ l p b → scan_of s l ≡ stops w → stop_words x ≡ w
    → Scans (record { packets = p; bytes = b; stop = x }) s l₀
stop-so {s} {l₀} {l} {p} {b} x w g e f =
    let a : (scan_of s l).packets ≡ 0 = ap (λ (y : Scan). y.packets) e in
    let c : (scan_of s l).bytes ≡ 0 = ap (λ (y : Scan). y.bytes) e in
    let d : (scan_of s l).stop ≡ w = ap (λ (y : Scan). y.stop) e in
    let i = g.packets in
    let j = g.bytes in
    record { packets = omega arith; bytes = omega arith; stop = f ∙ sym d ∙ g.stop }

stop-short : {s : Sender} {l₀ l : List ℕ} {p b : ℕ} → Going s l₀ l p b → front_of s l ≡ says wants_more []
    → Scans (record { packets = p; bytes = b; stop = None }) s l₀
unfolding stop_words
stop-short {s} {l = l} g e = stop-so None (says stopped_short []) g (scan-short s l e) refl

stop-at : {s : Sender} {l₀ l : List ℕ} {p b : ℕ} (r : Refusal) → Going s l₀ l p b → front_of s l ≡ refuses r.number
    → Scans (record { packets = p; bytes = b; stop = Some r }) s l₀
unfolding stop_words
stop-at {s} {l = l} r g e = stop-so (Some r) (refuses r.number) g (scan-at s l r.number e) refl

go_on : {s : Sender} {l₀ l : List ℕ} {p b : ℕ} (n : PacketKind) (k : ℕ) (vs : List ℕ) → Going s l₀ l p b → front_of s l ≡ says (packet n) (k ∷ vs)
    → 3 ≤ k → k ≤ length l → Going s l₀ (drop k l) (p + 1) (b + k)
go_on {s} {l₀} {l} {p} {b} n k vs g e h i =
    let u = scan-on s l n k vs e in
    let c : (scan_of s l).packets ≡ 1 + (scan_of s (drop k l)).packets = ap (λ (y : Scan). y.packets) u in
    let d : (scan_of s l).bytes ≡ k + (scan_of s (drop k l)).bytes = ap (λ (y : Scan). y.bytes) u in
    let f : (scan_of s l).stop ≡ (scan_of s (drop k l)).stop = ap (λ (y : Scan). y.stop) u in
    let a = g.bound in
    let w = g.few in
    let x = g.packets in
    let y = g.bytes in
    record {
      bound = omega (arith, length-drop k l);
      few = omega arith;
      packets = omega arith;
      bytes = omega arith;
      stop = sym f ∙ g.stop;
    }

-- ---- a field, byte by byte: x is its state after i bytes

module _ (l : List ℕ) (i : ℕ) (x y : SessionState) where
  pub session-next : session_from x (drop i l) ≡ session_from Blank l → i < length l → y ≡ session_step x (get_or l i 0)
      → session_from y (drop (i + 1) l) ≡ session_from Blank l
  unfolding session_from
  session-next e h s = let d : drop i l ≡ get_or l i 0 ∷ drop (i + 1) l = rw (add-one, drop-cons l i 0) in rw s (rw d at e)

  session-bad : session_from x (drop i l) ≡ session_from Blank l → i < length l → y ≡ session_step x (get_or l i 0) → y ≡ Bad → session_from Blank l ≡ Bad
  session-bad e h s b = sym (session-next e h s) ∙ rw b (session-fold.bad_stays (drop (i + 1) l))

session-end : (l : List ℕ) (i : ℕ) (x : SessionState) → session_from x (drop i l) ≡ session_from Blank l → length l ≤ i → x ≡ session_from Blank l
unfolding session_from
session-end l i x e h = rw (drop_of_length-le l h) at e

pub session-start : (l : List ℕ) → (0 ≤ length l) × (session_from Blank (drop 0 l) ≡ session_from Blank l)
session-start l = (omega arith, refl)

module _ (l : List ℕ) (i : ℕ) (x y : NumberState) where
  pub number-next : number_from x (drop i l) ≡ number_from counting.Blank l → i < length l → y ≡ number_step x (get_or l i 0)
      → number_from y (drop (i + 1) l) ≡ number_from counting.Blank l
  unfolding number_from
  number-next e h s = let d : drop i l ≡ get_or l i 0 ∷ drop (i + 1) l = rw (add-one, drop-cons l i 0) in rw s (rw d at e)

  number-bad : number_from x (drop i l) ≡ number_from counting.Blank l → i < length l → y ≡ number_step x (get_or l i 0) → y ≡ counting.Bad
      → number_from counting.Blank l ≡ counting.Bad
  number-bad e h s b = sym (number-next e h s) ∙ rw b (number-fold.bad_stays (drop (i + 1) l))

number-end : (l : List ℕ) (i : ℕ) (x : NumberState) → number_from x (drop i l) ≡ number_from counting.Blank l → length l ≤ i → x ≡ number_from counting.Blank l
unfolding number_from
number-end l i x e h = rw (drop_of_length-le l h) at e

pub number-start : (l : List ℕ) → (0 ≤ length l) × (number_from counting.Blank (drop 0 l) ≡ number_from counting.Blank l)
number-start l = (omega arith, refl)

-- ---- fields that are bad

by-fields : (P : Type 0) (c : ℕ) → (has_fields c ≡ true → P) → (has_fields c ≡ false → P) → P
by-fields P c f g = go (has_fields c) refl
  where
    go : (b : Bool) → has_fields c ≡ b → P
    go true e = f e
    go false e = g e

-- without fields the session is no bytes, which may be blank
no_fields : (c : ℕ) → has_fields c ≡ false → blank_allowed c ≡ true
unfolding has_fields blank_allowed
no_fields c = go (eqb c 65)
  where
    go : (b : Bool) → if b then true else eqb c 76 ≡ false → not b ≡ true
    go true e = let z : ◌≡◌ {A = ℕ} 0 1 = cc in absurd (omega arith)
    go false e = refl

none-good : (l : List ℕ) (c : ℕ) → has_fields c ≡ false → good_session (blank_allowed c) (session_bytes c l) ≡ true
unfolding session_bytes good_session are_letters_or_digits leading_spaces
none-good l c e = rw (e, no_fields c e)

module _ (l : List ℕ) where
  bad-session : good_session (blank_allowed (letter_of l)) (session_bytes (letter_of l) l) ≡ false → fields_of l ≡ says bad_field []
  unfolding fields_of fields_at with_number
  bad-session e = by-fields _ (letter_of l) (λ h. rw (h, e)) (λ h. let z : ◌≡◌ {A = ℕ} 0 1 = cc (none-good l (letter_of l) h) in absurd (omega arith))

  bad-number : has_fields (letter_of l) ≡ true → read_number (least_number_of (letter_of l)) (number_bytes (letter_of l) l) ≡ says bad [] → fields_of l ≡ says bad_field []
  unfolding fields_of fields_at with_number number_fields
  bad-number h e = rw (h, e) (go (good_session (blank_allowed (letter_of l)) (session_bytes (letter_of l) l)))
    where
      go : (b : Bool) → (if b then says bad_field [] else says bad_field []) ≡ says bad_field []
      go true = refl
      go false = refl

  has-number : (i : ℕ) → i < length (number_bytes (letter_of l) l) → has_fields (letter_of l) ≡ true
  unfolding number_bytes
  has-number i h = by-fields _ (letter_of l) (λ e. e) (λ e. absurd (omega (arith, rw e at h)))

-- ---- what the fields make, as the test for none tells

made-none : (r : Option Packet) → is_some r ≡ false → r ≡ None
made-none None d = refl
made-none (Some p) d = cc

made-some : (r : Option Packet) → is_some r ≡ true → (p : Packet) × (r ≡ Some p)
made-some None d = let k : ◌≡◌ {A = ℕ} 0 1 = cc in absurd (omega arith)
made-some (Some p) d = (p, refl)

-- ---- as the code of `scan` has it: h is what the head was read as, c the letter, n and m the bytes of its session and number

module _ {s : Sender} {l₀ l : List ℕ} {p b : ℕ} where
  pub scan-needs-more : (h : Head) → Going s l₀ l p b → head_words h ≡ head_of s l → h ≡ NeedMore
      → Scans (record { packets = p; bytes = b; stop = None }) s l₀
  unfolding head_words
  scan-needs-more h g e f = stop-short g (front-short s l (sym (rw f at e)))

  pub scan-refused : (h : Head) (r : Refusal) → Going s l₀ l p b → head_words h ≡ head_of s l → h ≡ Refused r
      → Scans (record { packets = p; bytes = b; stop = Some r }) s l₀
  unfolding head_words
  scan-refused h r g e f = stop-at r g (front-fault s l r.number (sym (rw f at e)))

  stop-bad : (h : Head) (k : ℕ) → Going s l₀ l p b → head_words h ≡ head_of s l → h ≡ Whole k → fields_of l ≡ says bad_field []
      → Scans (record { packets = p; bytes = b; stop = Some (record { number = field_bad }) }) s l₀
  unfolding head_words
  stop-bad h k g e f w = stop-at (record { number = field_bad }) g (front-bad s l k (sym (rw f at e)) w)

  -- a byte makes the session bad
  pub scan-bad-session : (h : Head) (k c i : ℕ) (n : List ℕ) (x y : SessionState) → Going s l₀ l p b → head_words h ≡ head_of s l → h ≡ Whole k
      → c ≡ letter_of l → n ≡ session_bytes c l → (i ≤ length n) × (session_from x (drop i n) ≡ session_from Blank n) → i < length n → y ≡ session_step x (get_or n i 0)
      → y ≡ Bad → Scans (record { packets = p; bytes = b; stop = Some (record { number = field_bad }) }) s l₀
  unfolding session_good
  scan-bad-session h k c i n x y g e f j q v w t u =
      let z : session_from Blank n ≡ Bad = session-bad n i x y v.1 w t u in
      let a : n ≡ session_bytes (letter_of l) l = q ∙ ap (λ (o : ℕ). session_bytes o l) j in
      let d : good_session (blank_allowed (letter_of l)) n ≡ false = sym (session-fold.same (blank_allowed (letter_of l)) n) ∙ rw z in
      stop-bad h k g e f (bad-session l (rw a at d))

  -- the session is blank where it may not be
  pub scan-no-session : (h : Head) (k c i : ℕ) (n : List ℕ) (x : SessionState) (o v : Bool) → Going s l₀ l p b → head_words h ≡ head_of s l → h ≡ Whole k
      → c ≡ letter_of l → n ≡ session_bytes c l → (i ≤ length n) × (session_from x (drop i n) ≡ session_from Blank n) → length n ≤ i
      → v ≡ blank_allowed c → o ≡ session_good v x → not o ≡ true
      → Scans (record { packets = p; bytes = b; stop = Some (record { number = field_bad }) }) s l₀
  scan-no-session h k c i n x o v g e f j q w t a d u =
      let z : x ≡ session_from Blank n = session-end n i x w.1 t in
      let m : n ≡ session_bytes (letter_of l) l = q ∙ ap (λ (y : ℕ). session_bytes y l) j in
      let y : good_session (blank_allowed (letter_of l)) n ≡ false = sym (session-fold.same (blank_allowed (letter_of l)) n) ∙ rw (← z, ← j, ← a) (sym d ∙ not-true o u) in
      stop-bad h k g e f (bad-session l (rw m at y))

  -- a byte makes the number bad
  pub scan-bad-number : (h : Head) (k c i : ℕ) (n : List ℕ) (x y : NumberState) → Going s l₀ l p b → head_words h ≡ head_of s l → h ≡ Whole k
      → c ≡ letter_of l → n ≡ number_bytes c l → (i ≤ length n) × (number_from x (drop i n) ≡ number_from counting.Blank n) → i < length n
      → y ≡ number_step x (get_or n i 0) → y ≡ counting.Bad
      → Scans (record { packets = p; bytes = b; stop = Some (record { number = field_bad }) }) s l₀
  unfolding number_good
  scan-bad-number h k c i n x y g e f j q v w t u =
      let z : number_from counting.Blank n ≡ counting.Bad = number-bad n i x y v.1 w t u in
      let a : n ≡ number_bytes (letter_of l) l = q ∙ ap (λ (o : ℕ). number_bytes o l) j in
      let d : read_number (least_number_of (letter_of l)) n ≡ says bad [] = sym (number-fold.same (least_number_of (letter_of l)) n) ∙ rw z in
      stop-bad h k g e f (bad-number l (has-number l i (rw a at w)) (rw a at d))

  -- all bytes of both were looked at: r is what they make
  module _ (h : Head) (k c i j : ℕ) (n m : List ℕ) (x : SessionState) (y : NumberState) (o v : Bool) (a : ℕ) (w : Option SequenceNumber) (r : Option Packet) (g : Going s l₀ l p b)
      (e : head_words h ≡ head_of s l) (f : h ≡ Whole k) (f₁ : c ≡ letter_of l) (f₂ : n ≡ session_bytes c l)
      (f₃ : (i ≤ length n) × (session_from x (drop i n) ≡ session_from Blank n)) (f₄ : length n ≤ i) (f₅ : v ≡ blank_allowed c) (f₆ : o ≡ session_good v x)
      (f₇ : not o ≡ false) (e₂ : m ≡ number_bytes c l) (e₃ : (j ≤ length m) × (number_from y (drop j m) ≡ number_from counting.Blank m)) (e₄ : length m ≤ j)
      (e₅ : a ≡ least_number_of c) (e₆ : number_words w ≡ number_good a y) (e₇ : fields_words r ≡ fields_at c (get_or l 3 0) true (number_words w)) where
    made_so : fields_words r ≡ fields_of l
    unfolding fields_of
    made_so =
        let z : x ≡ session_from Blank n = session-end n i x f₃.1 f₄ in
        let u : y ≡ number_from counting.Blank m = number-end m j y e₃.1 e₄ in
        let d : good_session (blank_allowed c) n ≡ true = sym (session-fold.same (blank_allowed c) n) ∙ rw (← z, ← f₅) (sym f₆ ∙ not-false o f₇) in
        let q : number_words w ≡ read_number (least_number_of c) m = e₆ ∙ rw (e₅, u) (number-fold.same (least_number_of c) m) in
        e₇ ∙ rw (← f₁, ← f₂, ← e₂, d, q)

    bad-packet : r ≡ None → Scans (record { packets = p; bytes = b; stop = Some (record { number = field_bad }) }) s l₀
    unfolding fields_words
    bad-packet t = stop-bad h k g e f (sym (rw t at made_so))

    next : (q : Packet) → r ≡ Some q → Going s l₀ (take (length l - k) (drop k l)) (p + 1) (b + k)
    unfolding fields_words head_words
    next q t =
        let u = sym (rw f at e) in
        let d = front-packet s l k (packet_kind q) (packet_values q) u (sym (rw t at made_so)) in
        rw (part_to_end k l) (go_on (packet_kind q) k (packet_values q) g d (whole-size s l k u).0 (whole-size s l k u).1)

    pub scan-bad-packet : is_some r ≡ false → Scans (record { packets = p; bytes = b; stop = Some (record { number = field_bad }) }) s l₀
    scan-bad-packet d = bad-packet (made-none r d)

    pub scan-next : is_some r ≡ true → Going s l₀ (take (length l - k) (drop k l)) (p + 1) (b + k)
    scan-next d = let m = made-some r d in next m.0 m.1

-- ---- the sizes of a packet whose head is whole

module _ (s : Sender) (l : List ℕ) (h : Head) (k : ℕ) (e : head_words h ≡ head_of s l) (f : h ≡ Whole k) where
  pub scan-fits : k ≤ length l
  unfolding head_words
  scan-fits = (whole-size s l k (sym (rw f at e))).1

  pub scan-less : length (take (length l - k) (drop k l)) < length l
  unfolding head_words
  scan-less =
      let w = whole-size s l k (sym (rw f at e)) in
      let a = w.0 in
      let b = w.1 in
      rw (part_to_end k l) (omega (arith, length-drop k l))

  pub scan-bytes : (l₀ : List ℕ) (p b : ℕ) → Going s l₀ l p b → Fits w64 (length l₀) → Fits w64 (b + k)
  scan-bytes l₀ p b g j = let w = g.bound in let u = j.fits in record { fits = omega (arith, scan-fits) }

  pub scan-packets : (l₀ : List ℕ) (p b : ℕ) → Going s l₀ l p b → Fits w64 (length l₀) → Fits w64 (p + 1)
  unfolding head_words
  scan-packets l₀ p b g j =
      let w = g.bound in
      let v = g.few in
      let u = j.fits in
      let a = whole-size s l k (sym (rw f at e)) in
      let a₀ = a.0 in
      let a₁ = a.1 in
      record { fits = omega arith }

-- ---- the words tell all stops apart

stopped_by : Case StopKind → ℕ → Option Refusal
stopped_by (answer stopped_short) r = None
stopped_by refused r = Some (record { number = r })

stops-apart : StopsApart
unfolding StopsApart stop_words stopped_by
stops-apart = read_back stop_words (λ w. stopped_by w.which w.refusal) back
  where
    back : (a : Option Refusal) → stopped_by (stop_words a).which (stop_words a).refusal ≡ a
    back None = refl
    back (Some r) = refl

-- ---- what is left of the stream where a scan stops: its front stops it

record Ends (s : Sender) (l : List ℕ) : Type 0 where
  by_front : StopsBy (front_of s (drop (scan_of s l).bytes l)) (scan_of s l).stop
  inside : (scan_of s l).bytes ≤ length l

module _ (s : Sender) (l : List ℕ) where
  ends-short : front_of s l ≡ says wants_more [] → Ends s l
  ends-short e =
      let u = scan-short s l e in
      let v : StopsBy (front_of s l) (says stopped_short []) = rw e by_short in
      record { by_front = rw u v; inside = rw u (omega arith) }

  ends_at : (r : ℕ) → front_of s l ≡ refuses r → Ends s l
  ends_at r e =
      let u = scan-at s l r e in
      let v : StopsBy (front_of s l) (refuses r) = rw e (by_refusal r) in
      record { by_front = rw u v; inside = rw u (omega arith) }

  ends_on : (p : PacketKind) (k : ℕ) (vs : List ℕ) → front_of s l ≡ says (packet p) (k ∷ vs) → k ≤ length l → Ends s (drop k l) → Ends s l
  ends_on p k vs e h x =
      let u = scan-on s l p k vs e in
      let d = drop-drop (scan_of s (drop k l)).bytes k l in
      record { by_front = rw (u, ← d) x.by_front; inside = rw u (omega (arith, x.inside, length-drop k l)) }

ends : (s : Sender) (n : ℕ) (l : List ℕ) → length l ≤ n → Ends s l
ends s zero l h = ends-short s l (front-none s l h)
ends s (suc n) l h = go (front-is s l) (λ (k : ℕ) (a : 3 ≤ k) (b : k ≤ length l). ends s n (drop k l) (omega (arith, length-drop k l)))
  where
    go : FrontIs s l → ((k : ℕ) → 3 ≤ k → k ≤ length l → Ends s (drop k l)) → Ends s l
    go (stops-short e) i = ends-short s l e
    go (stops_at r e) i = ends_at s l r e
    go (passes p k vs e a b) i = ends_on s l p k vs e b (i k a b)

pub scan-promises : ScanPromises
scan-promises =
    record {
      stops = λ s l. (ends s (length l) l (omega arith)).by_front;
      within = λ s l. (ends s (length l) l (omega arith)).inside;
      tells_apart = stops-apart;
    }
