-- Orders 6, 11 and 13 of document 02 by name: the statements that carry them, wherever they stand.
use Rattle.early_receiver.specs.Early.{lent_after}
use Rattle.early_receiver.specs.Statements.{EarlyPromises}
use Rattle.early_messages.specs.Delivery.{delivery, PartsAreMessages, PlacesExist, PlacesAreDelivered}
use Rattle.early_messages.specs.Walk.{WalksTheDelivery}
use Rattle.early_condition_3.specs.Rule.{SoundThroughout, OneMessage, FollowsTheRule}
use Rattle.early_condition_3.specs.Asks.{AsksWell}
use Rattle.early_condition_3.specs.Condition3.{EarlyCondition3}
use Rattle.early_condition_3.specs.Plain.{NeverLess}
use Rattle.early_condition_3.specs.Swapped.{SwappedNeighbours}
use Rattle.early_condition_3.specs.Witnesses.{NotVacuous, NotWeak, SwappedExample}
use Rattle.capture_tally.specs.Sums.{Sums}
use Rattle.capture.specs.Whole.{AnySlots}
use Rattle.capture.specs.Example.{PrintedExample}
use Rattle.missing_records.specs.Promises.{DatagramPromises}
use Rattle.missing_capture.specs.Whole.{PrintsWhatIsMissing, MissingCapturePromises}
use Rattle.exports_early.specs.Run.{HandsOn, HostGetsTrue}
use Rattle.exports_early_deliver.specs.Places.{PlacesAreMessages, EnoughPlaces, StillThere}
use Rattle.exports_early_deliver.specs.Run as one-call
use Rattle.exports_missing.specs.Calls.{MissingHandsOn}

-- Order 6: keep early messages
pub record Order6 : Type 0 where
  -- what one message does, in the order's own words; a datagram's are taken one at a time in rising number; and this is
  -- so at every receiver that datagrams bring up
  pub one_message : OneMessage
  pub follows_the_rule : FollowsTheRule lent_after delivery
  pub sound_throughout : SoundThroughout
  -- a refusal changes nothing, no slot byte changes but those of a message that is held, it asks exactly when, and what
  -- bytes the slots had doesn't matter
  pub at_one_datagram : EarlyPromises
  -- what it asks for can be sent, its limit stays, and its number never falls
  pub asks_well : AsksWell
  -- what will be delivered, by place before the step: a part each, there, its message's bytes, and all in one walk
  pub parts : PartsAreMessages
  pub places_exist : PlacesExist
  pub places_are_delivered : PlacesAreDelivered
  pub one_walk : WalksTheDelivery
  -- condition 3, with slots of any bytes at first; and no less than the plain receiver delivers
  pub condition_3 : EarlyCondition3
  pub never_less : NeverLess
  -- the report counts answers and requests; document 01's example, now with old=2; slots of any bytes print the same
  pub report : Sums
  pub printed_example : PrintedExample
  pub any_slots : AnySlots
  -- over calls of the exported functions, state and slots handed on, and condition 3 of what a host gets by them
  pub hands_on : HandsOn
  pub for_hosts : HostGetsTrue
  -- the same where one call takes a datagram and lays the places: the delivered messages, there after the step too
  pub places_are_messages : PlacesAreMessages
  pub enough_places : EnoughPlaces
  pub still_there : StillThere
  pub by_one_call : one-call.HandsOn
  -- it speaks of something, and wrong receivers break it
  pub not_vacuous : NotVacuous
  pub not_weak : NotWeak

-- Order 11: what is missing from this capture
pub record Order11 : Type 0 where
  -- every capture prints that its settings are refused, the list of what is missing, or that more ranges are than are
  -- kept
  pub every_capture : PrintsWhatIsMissing
  -- over every list of datagrams: a number is listed exactly when it is missing, by one list alone, whose sizes add up;
  -- refused just where more ranges are needed; it speaks of something, and wrong lists break it
  pub at_datagrams : DatagramPromises
  -- whatever the lent words were, for every cutting into pieces and all turns over a buffer
  pub however_read : MissingCapturePromises
  -- over calls of the exported functions, the state and the words of the edges handed on
  pub hands_on : MissingHandsOn

-- Order 13: swapped neighbours
pub record Order13 : Type 0 where
  pub either_order : SwappedNeighbours
  pub example : SwappedExample
