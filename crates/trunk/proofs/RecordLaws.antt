-- Laws of records. A datagram that the trunk carries has a kind of the table, and its written form has the length that the table fixes; a
-- record's head and carried bytes read back; and the record of a carried PDU, or a reply, breaks no rule on records. What is cited of the
-- reader and the writer stands here and in WriteLaws.
-- Assumes nothing.
use Prim.Native.Nat.{ℕ, ◌+◌, ◌%◌, ◌≤◌, ◌<◌}
use mathlib.Core.Path.{◌≡◌, refl, sym, ap, subst, ◌∙◌}
use mathlib.Core.Logic.Iff
use mathlib.Core.Logic.{◌↔◌, ◌≢◌, inl, inr}
use mathlib.Core.Bool.{Bool, true, false, not, ◌&&◌, and-false, false≢true}
use mathlib.Core.List.{List, [], ◌++◌}
use lib.ListN.{length, take, length-append}
use lib.Seq.{take_at, drop_at}
use lib.Dec.{eqb}
use native.Mathlib.Nat.{zero-add}
use native.Mathlib.Omega.{arith}
use borrow.Author.Tests.{eqb-true, eqb-false, eq-eqb, ne_eqb, not-false}
use Rattle.std.specs.Prelude.{Option, None, Some, IsSome, is_some, is_none, option_map, unwrap_or}
use Rattle.std.proofs.lemmas.Option.{none-some, same_Some}
use Rattle.wire.specs.Bytes.{Bytes}
use Rattle.wire.specs.Table.{Fit}
use Rattle.wire.proofs.TableLaws.{read-fill, length-fill}
use Rattle.wire.proofs.FitLaws.{bytes-append, bytes-fill}
use Rattle.pdu.specs.Tables.{signal_size}
use Rattle.pdu.specs.Words.{words_in}
use Rattle.pdu.specs.Reading.{reading, refusal, number_of}
use Rattle.pdu.specs.Forms.{size_of}
use Rattle.pdu.specs.Writing.{written_form, in_written_form}
use Rattle.pdu.specs.declared.Reading.{Reading}
use Rattle.pdu.specs.declared.Reading.TheVariants.{Refused, Transmitter as a_transmitter, Signal as a_signal}
use Rattle.wire.proofs.RuleLaws.{negated, both_then}
use Rattle.pdu.proofs.Answers.{reads_as, refuses_as, refusal-read}
use Rattle.pdu.proofs.RoundTrip.{written_form_lem, written_form_exactly, written_form-holds}
use Rattle.pdu.proofs.ReadLaws.{taken-words, taken-timing}
use Rattle.trunk.specs.Head.{head_table, head_size, head_values, head_at, head_of, head_bytes}
use Rattle.trunk.specs.Kinds.{load, load_size, carried_size, is_nothing, is_reply_load, record_size, reply_kind, kind_for, load_of, load_of_signal}
use Rattle.trunk.specs.Kinds.{kind_of, is_kind, offered_kind}
use Rattle.trunk.specs.Record.{head_for, record_of, reply_of, kind_in, number_in, carried_in, last_number, unknown_kind, wrong_size, is_reply}
use Rattle.trunk.specs.Record.{last_of_all, wrong_carried}
use Rattle.trunk.specs.Plain.{signal, transmitter, ask, answer, plain_kind, record_with, reply_with, record_for, TypeRule, OfKind}
use Rattle.trunk.specs.declared.Head.{Head}
use Rattle.trunk.specs.declared.Load.{Load}
use Rattle.trunk.specs.declared.Load.TheVariants.{Words, Transmitter, Interrogation, TimingReply}
use Rattle.trunk.proofs.KindLaws.{load_is}

-- ---- what is carried

-- the reader's number is its refusal
pub reader_number : (d : List ℕ) → number_of (reading d) ≡ refusal d
reader_number = refusal-read

-- what carrying a datagram says: it is taken, its kind is a byte, the table gives its load back, and that is a PDU of its size
pub record CarriedKind (d : List ℕ) : Type 0 where
  pub taken : refusal d ≡ 0
  pub byte : offered_kind (reading d) < 256
  pub known : is_none (load (offered_kind (reading d))) ≡ false
  pub no_reply : is_reply_load (load (offered_kind (reading d))) ≡ false
  pub size : carried_size (offered_kind (reading d)) ≡ size_of (reading d)

-- the same of a load and a size
record Carries (l : Load) (size : ℕ) : Type 0 where
  byte : kind_for l < 256
  back : load (kind_for l) ≡ Some l
  no_reply : is_nothing l ≡ false
  sized : load_size l ≡ size

carries_transmitter : (size : ℕ) → load_size Transmitter ≡ size → Carries Transmitter size
carries_transmitter size e =
    record { byte = omega arith; back = load_is (transmitter refl); no_reply = refl; sized = e }

carries_words : (n size : ℕ) → n ≤ 12 → load_size (Words n) ≡ size → Carries (Words n) size
carries_words n size few e =
    record { byte = omega arith; back = ap load (zero-add n) ∙ load_is (signal few); no_reply = refl; sized = e }

carries_ask : (size : ℕ) → load_size Interrogation ≡ size → Carries Interrogation size
carries_ask size e =
    record { byte = omega arith; back = load_is (ask refl); no_reply = refl; sized = e }

carries_answer : (size : ℕ) → load_size TimingReply ≡ size → Carries TimingReply size
carries_answer size e =
    record { byte = omega arith; back = load_is (answer refl); no_reply = refl; sized = e }

-- a Signal that is carried is of type 0, 1 or 2
pub data TypeCarried (type : ℕ) : Type 0 where
  words_type : type ≡ 0 → TypeCarried type
  ask_type : type ≡ 1 → TypeCarried type
  answer_type : type ≡ 2 → TypeCarried type

pub carried_type : (type n : ℕ) → IsSome (option_map kind_for (load_of_signal type n)) → TypeCarried type
carried_type type n h = by (eqb type 0) (eqb type 1) (eqb type 2) refl refl refl
  where
    by : (a b c : Bool) → eqb type 0 ≡ a → eqb type 1 ≡ b → eqb type 2 ≡ c → TypeCarried type
    by true b c x y z = words_type (eqb-true type 0 x)
    by false true c x y z = ask_type (eqb-true type 1 y)
    by false false true x y z = answer_type (eqb-true type 2 z)
    by false false false x y z = absurd (false≢true (rw (x, y, z) at h))

-- the type of such a Signal, as a number
type_below : {type : ℕ} → TypeCarried type → type ≤ 2
type_below (words_type e) = omega arith
type_below (ask_type e) = omega arith
type_below (answer_type e) = omega arith

-- and the reverse
below_type : (type : ℕ) → type ≤ 2 → TypeCarried type
below_type type h = by (eqb type 0) (eqb type 1) refl refl
  where
    by : (a b : Bool) → eqb type 0 ≡ a → eqb type 1 ≡ b → TypeCarried type
    by true b x y = words_type (eqb-true type 0 x)
    by false true x y = ask_type (eqb-true type 1 y)
    by false false x y =
        let some : type ≢ 0 = eqb-false type 0 x in
        let more : type ≢ 1 = eqb-false type 1 y in
        answer_type (omega arith)

pub carried_kind : (d : List ℕ) → IsSome (kind_of (reading d)) → CarriedKind d
carried_kind d h = by (reading d) refl h
  where
    made : (r : Reading) {l : Load} → reading d ≡ r → refusal d ≡ 0 → load_of r ≡ Some l → Carries l (size_of r) → CarriedKind d
    made r {l} e z held c =
        let kind : offered_kind (reading d) ≡ kind_for l = ap offered_kind e ∙ ap (λ (o : Option Load). unwrap_or (option_map kind_for o) 0) held in
        let back : load (offered_kind (reading d)) ≡ Some l = ap load kind ∙ c.back in
        record {
          taken = z;
          byte = rw kind c.byte;
          known = ap is_none back;
          no_reply = ap is_reply_load back ∙ c.no_reply;
          size = ap (λ (o : Option Load). unwrap_or (option_map load_size o) 0) back ∙ c.sized ∙ ap size_of (sym e);
        }

    by : (r : Reading) → reading d ≡ r → IsSome (kind_of r) → CarriedKind d
    by (Refused n) e c = absurd (false≢true c)
    by (a_transmitter t) e c = made (a_transmitter t) e (reads_as d (a_transmitter t) tt e).0 refl (carries_transmitter _ refl)
    by (a_signal s n) e c = typed (carried_type _ n c)
      where
        -- the load of a type, and that it is carried
        held : {l : Load} (type : ℕ)
            → s.network.message_type ≡ type
            → load_of_signal type n ≡ Some l
            → Carries l (signal_size n)
            → CarriedKind d
        held type same is c = made (a_signal s n) e (reads_as d (a_signal s n) tt e).0 (ap (λ (k : ℕ). load_of_signal k n) same ∙ is) c

        typed : TypeCarried s.network.message_type → CarriedKind d
        typed (words_type type) =
            let words = taken-words d s n e type in
            held 0 type refl (carries_words (words_in n) (signal_size n) words.1 (ap signal_size (sym words.0)))
        typed (ask_type type) = held 1 type refl (carries_ask _ (ap signal_size (sym (taken-timing d s n e (inl type)))))
        typed (answer_type type) = held 2 type refl (carries_answer _ (ap signal_size (sym (taken-timing d s n e (inr type)))))

-- ---- 23, of a datagram that is taken

pub type_says : (d : List ℕ) → refusal d ≡ 0 → (is_none (kind_of (reading d)) ≡ false) ↔ TypeRule d
type_says d z = Iff.trans (not-false _, ap not) (typed, carried)
  where
    typed : IsSome (kind_of (reading d)) → TypeRule d
    typed h s n e = type_below (carried_type _ n (ap (λ (r : Reading). is_some (kind_of r)) (sym e) ∙ h))

    carried : TypeRule d → IsSome (kind_of (reading d))
    carried t = by (reading d) refl
      where
        by : (r : Reading) → reading d ≡ r → IsSome (kind_of r)
        by (Refused n) e = let h = (refuses_as d n).0 e in absurd (h.1 (sym h.0 ∙ z))
        by (a_transmitter t) e = refl
        by (a_signal s n) e = typed (below_type _ (t s n e))
          where
            typed : TypeCarried s.network.message_type → IsSome (kind_of (a_signal s n))
            typed (words_type type) = rw type refl
            typed (ask_type type) = rw type refl
            typed (answer_type type) = rw type refl

-- ---- 22: a PDU of that kind

kind_test : (o : Option ℕ) (kind : ℕ) → (is_kind o kind ≡ true) ↔ (o ≡ Some kind)
kind_test None kind = (λ e. absurd (false≢true e), λ e. absurd (none-some kind e))
kind_test (Some k) kind = (λ e. ap Some (eqb-true _ _ e), λ e. eq-eqb _ _ (same_Some k kind e))

pub of_kind : (d : List ℕ) (kind : ℕ) → (is_kind (kind_of (reading d)) kind ≡ true) ↔ OfKind kind (reading d)
of_kind d kind = Iff.trans (kind_test _ _) (there, back)
  where
    there : kind_of (reading d) ≡ Some kind → OfKind kind (reading d)
    there same = by (reading d) refl same
      where
        by : (r : Reading) → reading d ≡ r → kind_of r ≡ Some kind → OfKind kind r
        by (Refused n) e k = absurd (none-some kind k)
        by (a_transmitter t) e k = transmitter t (sym (same_Some _ _ k))
        by (a_signal s n) e k = typed (carried_type _ n (ap is_some k))
          where
            of_type : (type m : ℕ) → option_map kind_for (load_of_signal type n) ≡ Some m → s.network.message_type ≡ type → m ≡ kind
            of_type type m is same = same_Some _ _ (sym is ∙ sym (ap (λ (t : ℕ). option_map kind_for (load_of_signal t n)) same) ∙ k)

            typed : TypeCarried s.network.message_type → OfKind kind (a_signal s n)
            typed (words_type type) =
                let words : 0 + words_in n ≡ kind = of_type 0 _ refl type in
                signal s n type (omega (arith, (taken-words d s n e type).0))
            typed (ask_type type) = ask s n type (sym (of_type 1 _ refl type))
            typed (answer_type type) = answer s n type (sym (of_type 2 _ refl type))

    back : OfKind kind (reading d) → kind_of (reading d) ≡ Some kind
    back o = by (reading d) refl o
      where
        by : (r : Reading) → reading d ≡ r → OfKind kind r → kind_of r ≡ Some kind
        by r e (transmitter t same) = ap Some (sym same)
        by r e (signal s n type long) = ap (λ (t : ℕ). option_map kind_for (load_of_signal t n)) type ∙ ap Some (omega arith)
        by r e (ask s n type same) = ap (λ (t : ℕ). option_map kind_for (load_of_signal t n)) type ∙ ap Some (sym same)
        by r e (answer s n type same) = ap (λ (t : ℕ). option_map kind_for (load_of_signal t n)) type ∙ ap Some (sym same)

-- what has a kind has the kind under which it is offered
own_kind : (o : Option ℕ) → IsSome o → is_kind o (unwrap_or o 0) ≡ true
own_kind None e = absurd (false≢true e)
own_kind (Some k) e = eq-eqb k k refl

-- what is carried, as the writer gives it, of that kind
pub carried_says_lem :
    (c : List ℕ) (kind : ℕ)
    → Bytes c
    → (not (in_written_form c && is_kind (kind_of (reading c)) kind) ≡ false) ↔ ((refusal c ≡ 0) × (written_form c ≡ c) × OfKind kind (reading c))
carried_says_lem c kind b =
    negated _
    (Iff.trans (both_then _ _ (written_form_exactly c b) (λ w. of_kind c kind))
    (λ x. (x.0.0, x.0.1, x.1), λ x. ((x.0, x.1), x.2)))

-- ---- a PDU that the trunk carries, as the writer gives it

pub record Carried (pdu : List ℕ) : Type 0 where
  pub bytes : Bytes pdu
  pub form : in_written_form pdu ≡ true
  pub kind : IsSome (kind_of (reading pdu))

-- the written form of a datagram that is carried is such a PDU, of the same kind
pub carried_form : (d : List ℕ) → Bytes d → IsSome (kind_of (reading d)) → Carried (written_form d) × (reading (written_form d) ≡ reading d)
carried_form d b h =
    let z = (carried_kind d h).taken in
    let w = written_form_lem d b z in
    (record { bytes = w.bytes; form = written_form-holds d b z; kind = ap (λ (r : Reading). is_some (kind_of r)) w.same ∙ h }, w.same)

-- the length of a PDU that is carried is that of its kind
pub carried-length : (pdu : List ℕ) → Carried pdu → length pdu ≡ carried_size (offered_kind (reading pdu))
carried-length pdu c =
    let w = (written_form_exactly pdu c.bytes).0 c.form in
    ap length (sym w.1) ∙ (written_form_lem pdu c.bytes w.0).size ∙ sym (carried_kind pdu c.kind).size

-- ---- a record's parts read back

module _ (head : Head) (pdu : List ℕ) where
  pub length_record : length (record_of head pdu) ≡ head_size + length pdu
  unfolding record_of
  length_record = length-append (head_bytes head) pdu ∙ ap (λ (n : ℕ). n + length pdu) (length-fill head_table (head_values head))

  pub carried_in_lem : carried_in (record_of head pdu) ≡ pdu
  unfolding record_of
  carried_in_lem = drop_at (head_bytes head) pdu head_size (length-fill head_table (head_values head))

  pub head_read : Fit head_table (head_values head) → head_at 0 (record_of head pdu) ≡ head
  unfolding record_of
  head_read fit = ap head_of (read-fill head_table [] pdu (head_values head) refl fit)

  pub record_bytes : Bytes pdu → Bytes (record_of head pdu)
  unfolding record_of
  record_bytes b = bytes-append (head_bytes head) pdu (bytes-fill head_table (head_values head)) b

-- a head of a kind and a number that fit
pub head_fits : (kind number : ℕ) → kind < 256 → number ≤ last_number → Fit head_table (head_values (head_for kind number))
head_fits kind number k n = (k, (omega arith, refl))

-- ---- records in plain numbers

-- the kind of a datagram that is carried
pub plain_kind_lem : (d : List ℕ) → IsSome (kind_of (reading d)) → offered_kind (reading d) ≡ plain_kind (reading d)
plain_kind_lem d h = by (reading d) h
  where
    by : (r : Reading) → IsSome (kind_of r) → offered_kind r ≡ plain_kind r
    by (Refused n) c = absurd (false≢true c)
    by (a_transmitter t) c = refl
    by (a_signal s n) c = typed (carried_type _ n c)
      where
        typed : TypeCarried s.network.message_type → offered_kind (a_signal s n) ≡ plain_kind (a_signal s n)
        typed (words_type type) = rw type (zero-add (words_in n))
        typed (ask_type type) = rw type refl
        typed (answer_type type) = rw type refl

-- a record is its kind, its number in 4 bytes, and what it carries
pub record_plain : (kind number : ℕ) (pdu : List ℕ) → kind < 256 → record_of (head_for kind number) pdu ≡ record_with kind number pdu
unfolding record_of
record_plain kind number pdu byte =
    let same : kind % 256 ≡ kind = omega arith in
    ap (λ (k : ℕ). record_with k number pdu) same

pub record_for_lem :
    (number : ℕ) (pdu : List ℕ)
    → IsSome (kind_of (reading pdu))
    → record_of (head_for (offered_kind (reading pdu)) number) pdu ≡ record_for number pdu
record_for_lem number pdu h =
    record_plain _ number pdu (carried_kind pdu h).byte ∙ ap (λ (k : ℕ). record_with k number pdu) (plain_kind_lem pdu h)

pub reply_plain : (number : ℕ) → reply_of number ≡ reply_with number
unfolding record_of
reply_plain number = refl

-- ---- the rules on records

-- the record of a carried PDU breaks none of 20, 21, 29, 25 and 22
pub record Sound (r : List ℕ) : Type 0 where
  pub known : unknown_kind r ≡ false
  pub sized : wrong_size r ≡ false
  pub no_reply : is_reply r ≡ false
  pub not_last : last_of_all r ≡ false
  pub right : wrong_carried r ≡ false

module _ (number : ℕ) (pdu : List ℕ) (c : Carried pdu) (h : number < last_number) where
  plainly : record_of (head_for (offered_kind (reading pdu)) number) pdu ≡ record_for number pdu
  plainly = record_for_lem number pdu c.kind

  pdu_head : head_at 0 (record_for number pdu) ≡ head_for (offered_kind (reading pdu)) number
  pdu_head = ap (head_at 0) (sym plainly) ∙ head_read _ pdu (head_fits _ number (carried_kind pdu c.kind).byte (omega arith))

  pub pdu_kind : kind_in (record_for number pdu) ≡ offered_kind (reading pdu)
  pdu_kind = ap (λ (x : Head). x.kind) pdu_head

  pub pdu_number : number_in (record_for number pdu) ≡ number
  pdu_number = ap (λ (x : Head). x.number) pdu_head

  pub pdu_length : length (record_for number pdu) ≡ record_size (offered_kind (reading pdu))
  pdu_length = ap length (sym plainly) ∙ length_record _ pdu ∙ ap (λ (n : ℕ). head_size + n) (carried-length pdu c)

  pub pdu_carried : carried_in (record_for number pdu) ≡ pdu
  pdu_carried = ap carried_in (sym plainly) ∙ carried_in_lem _ pdu

  pub pdu_bytes : Bytes (record_for number pdu)
  pdu_bytes = subst Bytes plainly (record_bytes _ pdu c.bytes)

  pub pdu_sound : Sound (record_for number pdu)
  unfolding unknown_kind wrong_size is_reply last_of_all wrong_carried
  pdu_sound =
      let k = carried_kind pdu c.kind in
      record {
        known = rw (pdu_kind, k.known, and-false);
        sized = rw pdu_kind (ap not (eq-eqb _ _ pdu_length));
        no_reply = rw (pdu_kind, k.no_reply);
        not_last = rw (pdu_number, ne_eqb number last_number (λ e. omega arith), and-false);
        right = rw (pdu_kind, pdu_carried, c.form, own_kind _ c.kind, and-false);
      }

-- a reply breaks neither 20 nor 21, and is a reply with its number
pub record SoundReply (r : List ℕ) (number : ℕ) : Type 0 where
  pub known : unknown_kind r ≡ false
  pub sized : wrong_size r ≡ false
  pub reply : is_reply r ≡ true
  pub kind_is : kind_in r ≡ reply_kind
  pub number_is : number_in r ≡ number

pub length_reply : (number : ℕ) → length (reply_of number) ≡ head_size
length_reply number = length_record (head_for reply_kind number) []

pub reply_sound : (number : ℕ) → number ≤ last_number → SoundReply (reply_of number) number
unfolding load unknown_kind wrong_size is_reply
reply_sound number h =
    let head = head_read (head_for reply_kind number) [] (head_fits reply_kind number (omega arith) h) in
    let kind = ap (λ (x : Head). x.kind) head in
    record {
      known = rw (kind, and-false);
      sized = rw (kind, length_reply number);
      reply = rw kind;
      kind_is = kind;
      number_is = ap (λ (x : Head). x.number) head;
    }

-- a reply at the start of its buffer
pub reply_written : (number : ℕ) (rest : List ℕ) → take head_size (reply_of number ++ rest) ≡ reply_of number
reply_written number rest = take_at (reply_of number) rest head_size (length_reply number)
