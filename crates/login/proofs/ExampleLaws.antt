-- The examples are computed; and all that a decision promises.
use mathlib.Core.Path.{refl}
use Rattle.wire.specs.Bytes.{same_bytes}
use Rattle.decimal.specs.Decimal.{is_digit}
use Rattle.text_fields.specs.Letters.{is_letter_or_digit, lower}
use Rattle.text_fields.specs.Sound.{word_length, are_spaces, sound}
use Rattle.login.specs.Account.{lowered, same_text, sound_account, is_of, has_password, is_known, verdict_of, lookup_of}
use Rattle.login.specs.Decision.{session_holds, number_holds, granted, decision_at}
use Rattle.login.specs.Examples.{LoginExamples}
use Rattle.login.specs.Promises.{LoginPromises}
use Rattle.login.proofs.DecisionLaws.{decisions-apart}
use Rattle.login.proofs.StatementLaws.{accepted_exactly_when, never_accepted, only_by_a_record}
use Rattle.login.proofs.LockLaws.{wrong_locks}

pub login-examples : LoginExamples
unfolding same_bytes is_digit is_letter_or_digit word_length are_spaces sound lower lowered same_text sound_account is_of has_password is_known verdict_of lookup_of session_holds number_holds granted decision_at
login-examples =
    record {
      case_differs = refl;
      first_decides = refl;
      unsound_is_skipped = refl;
      no_record = refl;
      blank_session = refl;
      session_in_small = refl;
      account_first = refl;
      wanted_none = refl;
      wanted_next = refl;
      wanted_beyond = refl;
      before_any_message = refl;
    }

pub login-promises : LoginPromises
login-promises =
    record {
      accepted_exactly_when = accepted_exactly_when;
      never_accepted = never_accepted;
      only_by_a_record = only_by_a_record;
      tells_apart = decisions-apart;
      examples = login-examples;
      wrong_locks = wrong_locks;
    }
