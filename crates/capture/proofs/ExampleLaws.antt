-- The printed example, computed in parts: its settings, its records, the report from datagram to datagram, its text.
use Prim.Native.Nat.{ℕ, ◌≤◌}
use mathlib.Core.Path.{◌≡◌, refl, ap, sym, ◌∙◌}
use mathlib.Core.List.Memᴰ
use mathlib.Core.List.{List, [], ◌∷◌, append-nil}
use mathlib.Core.Logic.{⊎_elim}
use mathlib.Core.Bool.{true, false}
use native.Mathlib.Omega.{arith}
use lib.ListN.{length, drop, get_or}
use lib.Seq.{drop-append_seam}
use Rattle.wire.specs.Text.{readroom}
use Rattle.wire.specs.Bounds.{blank, up_to}
use Rattle.wire.specs.Bytes.{number, bytes, same_bytes}
use Rattle.moldudp64.specs.Header.{number_of, count_of, header}
use Rattle.moldudp64.specs.Blocks.{block_length, fits, all_fit, after_blocks, messages, blocks_refusal, blocks_of}
use Rattle.moldudp64.specs.Downstream.{kind_of_count, block_count, refusal_of, messages_of}
use Rattle.moldudp64.specs.Written.{encoded, encoded_end}
use Rattle.receiver.specs.Table.{table}
use Rattle.receiver.specs.Receiver.{receiver, name_by, other_session, end_below, own_refusal, refusal_for, receiver_start_refusal, start_receiver}
use Rattle.early_word.specs.Word.{bit, ones_of, zeros_of, past, marked}
use Rattle.early_holding.specs.Holding.{early, is_held, number_past, keeps}
use Rattle.early_receiver.specs.Early.{start_early, wanted_to, wanted, answer_by}
use Rattle.early_receiver.proofs.AloneLaws.{keep_alone, one_alone, all_alone, kind_alone, after_alone, answer_alone, request_alone}
use Rattle.feed.specs.Session.{Datagram}
use Rattle.decimal.specs.Decimal.{digits_up_to, digits}
use Rattle.capture_settings.specs.Settings.{is_printable}
use Rattle.capture_settings.specs.Statements.{settings_text, Good}
use Rattle.capture_settings.proofs.TextLaws.{settings-promises}
use Rattle.capture_records.specs.Records.{most_records, is_whole, records_of, rest_of, is_cut, records_bytes, largest_length, AllHeld}
use Rattle.capture_records.proofs.RecordLaws.{record-promises}
use Rattle.capture_tally.specs.declared.report.Report.{Report}
use Rattle.capture_tally.specs.Tally.{tally, parts_in, asks_of}
use Rattle.capture_tally.specs.Report.{report, fresh_of}
use Rattle.capture_lines.specs.Lines.{number_line, session_line}
use Rattle.capture_text.specs.Text.{ended_line, receiver_text, tally_text, report_text}
use Rattle.capture.specs.declared.reading.Stage.TheVariants.{Done}
use Rattle.capture.specs.Reading.{reading, text_at}
use Rattle.capture.specs.Example.{example_datagrams, example_capture, printed, PrintedExample}
use Rattle.capture.proofs.AloneLaws.{step_alone, over_alone, records_alone, capture_alone, text-alone}

-- ---- the settings and the records

good : Good readroom 1 100
unfolding is_printable
good =
    record {
      ten_bytes = refl;
      printable = refl;
      not_blank = λ (e : readroom ≡ blank). let k : ◌≡◌ {A = ℕ} 82 32 = ap (λ (l : List ℕ). get_or l 0 0) e in absurd (omega arith);
      number_least = omega arith;
      number_most = omega arith;
      limit_least = omega arith;
      limit_most = omega arith;
    }

held_none : AllHeld []
unfolding AllHeld
held_none d m = absurd (Memᴰ.not-nil m)

held_more : (d : Datagram) (ds : List Datagram) → length d ≤ largest_length → AllHeld ds → AllHeld (d ∷ ds)
unfolding AllHeld
held_more d ds h i x m = ⊎_elim (λ e. rw e h) (i x) (Memᴰ.cases_cons m)

held : AllHeld example_datagrams
unfolding encoded encoded_end header bytes blocks_of
held =
    held_more _ _ (omega arith) (held_more _ _ (omega arith) (held_more _ _ (omega arith) (held_more _ _ (omega arith) (held_more _ _ (omega arith)
    (held_more _ _ (omega arith) (held_more _ _ (omega arith) (held_more _ _ (omega arith) (held_more _ _ (omega arith) held_none))))))))

whole-none : is_whole [] ≡ false
unfolding is_whole
whole-none = refl

few : length example_datagrams ≤ most_records
few = omega arith

records-so : records_of (records_bytes example_datagrams) ≡ example_datagrams
records-so =
    ap records_of (sym (append-nil (records_bytes example_datagrams)))
    ∙ record-promises.read_back.datagrams example_datagrams [] most_records held whole-none few

rest-so : rest_of most_records (records_bytes example_datagrams) ≡ []
rest-so =
    ap (rest_of most_records) (sym (append-nil (records_bytes example_datagrams)))
    ∙ record-promises.read_back.left example_datagrams [] most_records held whole-none few

-- ---- the report

abbrev started : Report
started = fresh_of (early (receiver readroom 1 100 false) 0)

abbrev final : Report
final = report (early (receiver readroom 6 100 true) 0) 9 (tally 5 2 1 2 1)

reported-so : over_alone started example_datagrams ≡ final
unfolding over_alone step_alone parts_in asks_of up_to after_alone answer_alone request_alone kind_alone messages_of messages all_alone one_alone keep_alone keeps is_held number_past bit ones_of zeros_of past marked wanted wanted_to answer_by refusal_for own_refusal name_by other_session end_below table same_bytes refusal_of blocks_refusal all_fit fits after_blocks block_length block_count kind_of_count number_of count_of encoded encoded_end header bytes blocks_of number
reported-so = refl

start-so : start_early readroom 1 100 ≡ early (receiver readroom 1 100 false) 0
unfolding start_early start_receiver receiver_start_refusal
start-so = refl

report-so : records_alone (start_early readroom 1 100) (records_bytes example_datagrams) ≡ final
unfolding records_alone is_cut
report-so = rw (rest-so, records-so, start-so) reported-so

-- ---- the text

text-so : report_text final ≡ printed
unfolding report_text receiver_text tally_text session_line number_line ended_line digits digits_up_to
text-so = refl

-- ---- all of it

behind-so : drop (length (settings_text readroom 1 100)) example_capture ≡ records_bytes example_datagrams
behind-so = drop-append_seam (settings_text readroom 1 100) (records_bytes example_datagrams)

capture-so : capture_alone example_capture ≡ reading Done final
unfolding capture_alone
capture-so =
    rw (settings-promises.reads_exactly.reads readroom 1 100 (records_bytes example_datagrams) good, behind-so) (ap (reading Done) report-so)

pub printed_example : PrintedExample
unfolding PrintedExample text_at
printed_example = text-alone example_capture ∙ rw capture-so text-so
