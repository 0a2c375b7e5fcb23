-- The report as text: every line ends with a line feed.
use Rattle.std.specs.Prelude.{ℕ, List, ◌++◌, Bool, true, false}
use Rattle.wire.specs.Text.{ascii}
use Rattle.receiver.specs.declared.receiver.Receiver.{Receiver}
use Rattle.capture_tally.specs.declared.tally.Tally.{Tally}
use Rattle.capture_tally.specs.declared.report.Report.{Report}
use Rattle.capture_settings.specs.Settings.{next_key}
use Rattle.capture_settings.specs.Statements.{line}
use Rattle.capture_lines.specs.Lines.{number_line, session_line}

-- ---- the lines

-- `ended=`, `yes` and `no`
abbrev pub ended_key : List ℕ
ended_key = ascii "ended="

abbrev pub yes : List ℕ
yes = ascii "yes"

abbrev pub no : List ℕ
no = ascii "no"

unfoldable pub ended_line : Bool → List ℕ
ended_line true = line ended_key yes
ended_line false = line ended_key no

-- `delivered=`, `old=`, `quiet=`, `asked=`, `refused=`
abbrev pub delivered_key : List ℕ
delivered_key = ascii "delivered="

abbrev pub old_key : List ℕ
old_key = ascii "old="

abbrev pub quiet_key : List ℕ
quiet_key = ascii "quiet="

abbrev pub asked_key : List ℕ
asked_key = ascii "asked="

abbrev pub refused_key : List ℕ
refused_key = ascii "refused="

-- ---- the text

unfoldable pub receiver_text : Receiver → List ℕ
receiver_text r = session_line r.session ++ number_line next_key r.next.0 ++ ended_line r.ended

unfoldable pub tally_text : Tally → List ℕ
tally_text t =
    number_line delivered_key t.delivered
    ++ number_line old_key t.old
    ++ number_line quiet_key t.quiet
    ++ number_line asked_key t.asked
    ++ number_line refused_key t.refused

unfoldable pub report_text : Report → List ℕ
report_text x = receiver_text x.receiver.base ++ tally_text x.tally

-- the bytes that are room enough for any report
abbrev pub room : ℕ
room = 256
