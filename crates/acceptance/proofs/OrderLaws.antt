-- Orders 6, 11 and 13: each field is a law of the crate that states it.
use Rattle.early_receiver.proofs.Promises.{early-promises}
use Rattle.early_messages.proofs.GivesLaws.{places_are_delivered, places_exist}
use Rattle.early_messages.proofs.PartLaws.{parts-are-messages}
use Rattle.early_messages.proofs.WalkLaws.{walks-the-delivery}
use Rattle.early_condition_3.proofs.ConditionLaws.{early-condition-3}
use Rattle.early_condition_3.proofs.RuleLaws.{sound_throughout, one_message, follows_the_rule}
use Rattle.early_condition_3.proofs.AskLaws.{asks_well}
use Rattle.early_condition_3.proofs.PlainLaws.{never_less}
use Rattle.early_condition_3.proofs.SwappedLaws.{swapped-neighbours}
use Rattle.early_condition_3.proofs.WitnessLaws.{not_weak}
use Rattle.early_condition_3.proofs.ExampleLaws.{not_vacuous, swapped-example}
use Rattle.capture_tally.proofs.SumLaws.{sums}
use Rattle.capture.proofs.AloneLaws.{any_slots}
use Rattle.capture.proofs.ExampleLaws.{printed_example}
use Rattle.missing_records.proofs.OverLaws.{datagram-promises}
use Rattle.missing_capture.proofs.WholeLaws.{missing-capture-promises}
use Rattle.exports_early.proofs.RunLaws.{hands_on, host-gets-true}
use Rattle.exports_early_deliver.proofs.PlaceLaws.{places_are_messages, enough_places, still_there}
use Rattle.exports_early_deliver.proofs.RunLaws as one-call
use Rattle.exports_missing.proofs.FeedLaws.{missing-hands-on}
use Rattle.acceptance.specs.Orders.{Order6, Order11, Order13}

pub order-6 : Order6
order-6 =
    record {
      one_message = one_message;
      follows_the_rule = follows_the_rule;
      sound_throughout = sound_throughout;
      at_one_datagram = early-promises;
      asks_well = asks_well;
      parts = parts-are-messages;
      places_exist = places_exist;
      places_are_delivered = places_are_delivered;
      one_walk = walks-the-delivery;
      condition_3 = early-condition-3;
      never_less = never_less;
      report = sums;
      printed_example = printed_example;
      any_slots = any_slots;
      hands_on = hands_on;
      for_hosts = host-gets-true;
      places_are_messages = places_are_messages;
      enough_places = enough_places;
      still_there = still_there;
      by_one_call = one-call.hands_on;
      not_vacuous = not_vacuous;
      not_weak = not_weak;
    }

pub order-11 : Order11
order-11 =
    record {
      every_capture = missing-capture-promises.prints_what_is_missing;
      at_datagrams = datagram-promises;
      however_read = missing-capture-promises;
      hands_on = missing-hands-on;
    }

pub order-13 : Order13
order-13 = record { either_order = swapped-neighbours; example = swapped-example }
