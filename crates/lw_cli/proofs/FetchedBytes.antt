-- What a command may write over the first bytes that a fetch gives, it may write over the whole file.
use Rattle.std.proofs.Common.{◌≡◌, ℕ, ◌+◌, ◌<◌, ◌≤◌, List, ◌++◌, length, take, Option, Some, None, ◌⊎◌, inl, inr, ◌∙◌, subst, ap, arith}
use Rattle.std.proofs.lemmas.List.{take_all, length-take}
use Rattle.lw_io.specs.Files.{Files}
use Rattle.lw_cli.specs.declared.asked.Command.{Command}
use Rattle.lw_cli.specs.declared.asked.Command.TheVariants.{Run, Check, Gen}
use Rattle.lw_cli.specs.declared.finding.Finding.{Finding}
use Rattle.lw_cli.specs.declared.finding.Finding.TheVariants.{ModelText, ProofText}
use Rattle.lw_cli.specs.FileLimit.{file_limit}
use Rattle.lw_cli.specs.FaultLines.{syntax_line, trouble_line}
use Rattle.lw_cli.specs.Checked as check
use Rattle.lw_cli.specs.Checked.{IsFinding}
use Rattle.lw_cli.specs.RunOutcomes as run
use Rattle.lw_cli.specs.RunOutcomes.{RunOutcome, RunBegins}
use Rattle.lw_cli.specs.Commands.{Outcome, IsBegun}
use Rattle.lw_cli.specs.Headline.{IsRead, Answers, AnswersPart, AnswersBegun, IsCutShort}
use Rattle.lw_cli.specs.Private.AskedWords.{IsReadPart}
use Rattle.lw_cli.specs.Private.ReportSteps.{Wrote, WrotePart, WroteBegun, IsShort}

-- one byte more than n of a list: where that is at most n long, it is all of the list
all_of : (n : ℕ) (part bytes : List ℕ) → part ≡ take (n + 1) bytes → length part ≤ n → part ≡ bytes
all_of n part bytes is short =
    let bound : length bytes ≤ n + 1 = omega (arith, length-take (n + 1) bytes, ap length is) in
    is ∙ take_all (n + 1) bytes bound

more_of : (n : ℕ) (part bytes : List ℕ) → part ≡ take (n + 1) bytes → n < length part → n < length bytes
more_of n part bytes is long = omega (arith, length-take (n + 1) bytes, ap length is)

finding_of_whole : (part bytes : List ℕ) (finding : Finding) → part ≡ take (file_limit + 1) bytes → IsFinding part finding → IsFinding bytes finding
finding_of_whole part bytes _ is (check.too_long long) = check.too_long (more_of file_limit part bytes is long)
finding_of_whole part bytes _ is (check.no_model line short told) =
    subst (λ xs. IsFinding xs (ModelText line)) (all_of file_limit part bytes is short) (check.no_model line short told)
finding_of_whole part bytes _ is (check.no_proof line short told) =
    subst (λ xs. IsFinding xs (ProofText line)) (all_of file_limit part bytes is short) (check.no_proof line short told)
finding_of_whole part bytes _ is (check.judged c finding short reads says) =
    subst (λ xs. IsFinding xs finding) (all_of file_limit part bytes is short) (check.judged c finding short reads says)

run_of_whole : (part bytes out : List ℕ) (status : ℕ) → part ≡ take (file_limit + 1) bytes → RunOutcome part out status → RunOutcome bytes out status
run_of_whole part bytes _ _ is (run.too_long long) = run.too_long (more_of file_limit part bytes is long)
run_of_whole part bytes _ _ is (run.refused line column why short told) =
    subst (λ xs. RunOutcome xs (syntax_line line column why) 1) (all_of file_limit part bytes is short) (run.refused line column why short told)
run_of_whole part bytes _ _ is (run.done s out short reads allows) =
    subst (λ xs. RunOutcome xs out 0) (all_of file_limit part bytes is short) (run.done s out short reads allows)
run_of_whole part bytes _ _ is (run.stopped s out line t short reads allows) =
    subst (λ xs. RunOutcome xs (out ++ trouble_line line t) 1) (all_of file_limit part bytes is short) (run.stopped s out line t short reads allows)

outcome_of_whole : (command : Command) (part bytes out : List ℕ) (status : ℕ) → part ≡ take (file_limit + 1) bytes → Outcome command part out status → Outcome command bytes out status
outcome_of_whole (Run file) part bytes out status is outcome = run_of_whole part bytes out status is outcome
outcome_of_whole (Check file) part bytes out status is outcome = record {
  finding = outcome.finding;
  is_finding = finding_of_whole part bytes outcome.finding is outcome.is_finding;
  line = outcome.line;
  ending = outcome.ending;
}
outcome_of_whole (Gen n) part bytes out status is outcome = outcome

begun_of_whole : (command : Command) (part bytes out : List ℕ) → part ≡ take (file_limit + 1) bytes → IsBegun command part out → IsBegun command bytes out
begun_of_whole (Run file) part bytes out is begun = subst (λ xs. RunBegins xs out) (all_of file_limit part bytes is begun.short) begun
begun_of_whole (Check file) part bytes out is begun = absurd begun
begun_of_whole (Gen n) part bytes out is begun = absurd begun

-- what the command reads, over which it may write all that it may write over the first part of it that the fetch gave
record ReadWhole (command : Command) (holds : Option Files) (part : List ℕ) : Type 0 where
  bytes : List ℕ
  read : IsRead holds command bytes
  outcome : (out : List ℕ) (status : ℕ) → Outcome command part out status → Outcome command bytes out status
  begun : (out : List ℕ) → IsBegun command part out → IsBegun command bytes out

-- it is no more than that part, or the file that it is a part of
alone : (command : Command) (holds : Option Files) (part : List ℕ) → IsRead holds command part → ReadWhole command holds part
alone command holds part read = record { bytes = part; read = read; outcome = λ out status outcome. outcome; begun = λ out begun. begun }

taken_of : (command : Command) (holds : Option Files) (part bytes : List ℕ) → IsRead holds command bytes → part ≡ take (file_limit + 1) bytes → ReadWhole command holds part
taken_of command holds part bytes read taken = record {
  bytes = bytes;
  read = read;
  outcome = λ out status outcome. outcome_of_whole command part bytes out status taken outcome;
  begun = λ out begun. begun_of_whole command part bytes out taken begun;
}

read_whole : (command : Command) (holds : Option Files) (part : List ℕ) → IsReadPart holds command (file_limit + 1) part → ReadWhole command holds part
read_whole (Run file) None part held = alone (Run file) None part tt
read_whole (Run file) (Some files) part (bytes, at, taken) = taken_of (Run file) (Some files) part bytes at taken
read_whole (Check file) None part held = alone (Check file) None part tt
read_whole (Check file) (Some files) part (bytes, at, taken) = taken_of (Check file) (Some files) part bytes at taken
read_whole (Gen n) holds part none = alone (Gen n) holds part none

-- so what was written over that part is what may be written over what is read
pub answers_whole : (command : Command) (holds : Option Files) (part : List ℕ) (before now : Option (List ℕ)) (status : ℕ) → IsReadPart holds command (file_limit + 1) part
    → Wrote (Outcome command part) before now status → Answers command holds before now status
answers_whole command holds part before now status held wrote =
    let whole = read_whole command holds part held in
    record { out = wrote.out; output = record { bytes = whole.bytes; read = whole.read; outcome = whole.outcome wrote.out status wrote.allowed }; written = wrote.written }

part_whole : (command : Command) (holds : Option Files) (part : List ℕ) (before now : Option (List ℕ)) → IsReadPart holds command (file_limit + 1) part
    → WrotePart (Outcome command part) before now → AnswersPart command holds before now
part_whole command holds part before now held wrote =
    let whole = read_whole command holds part held in
    record {
      out = wrote.out;
      status = wrote.status;
      output = record { bytes = whole.bytes; read = whole.read; outcome = whole.outcome wrote.out wrote.status wrote.allowed };
      written = wrote.written;
    }

begun_whole : (command : Command) (holds : Option Files) (part : List ℕ) (before now : Option (List ℕ)) → IsReadPart holds command (file_limit + 1) part
    → WroteBegun (IsBegun command part) before now → AnswersBegun command holds before now
begun_whole command holds part before now held wrote =
    let whole = read_whole command holds part held in
    record { bytes = whole.bytes; read = whole.read; out = wrote.out; begun = whole.begun wrote.out wrote.is_begun; written = wrote.written }

pub short_whole : (command : Command) (holds : Option Files) (part : List ℕ) (before now : Option (List ℕ)) → IsReadPart holds command (file_limit + 1) part
    → IsShort (Outcome command part) (IsBegun command part) before now → IsCutShort command holds before now
short_whole command holds part before now held (inl wrote) = inl (part_whole command holds part before now held wrote)
short_whole command holds part before now held (inr wrote) = inr (begun_whole command holds part before now held wrote)

pub nothing_or_short : (command : Command) (holds : Option Files) (part : List ℕ) (before now : Option (List ℕ)) → IsReadPart holds command (file_limit + 1) part
    → (now ≡ before) ⊎ IsShort (Outcome command part) (IsBegun command part) before now → (now ≡ before) ⊎ IsCutShort command holds before now
nothing_or_short command holds part before now held (inl same) = inl same
nothing_or_short command holds part before now held (inr short) = inr (short_whole command holds part before now held short)
