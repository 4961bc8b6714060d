-- A description is read once: at the head of an input, and as a text of its own.
use Rattle.std.proofs.Common.{◌≡◌, ℕ, ◌+◌, false, List, [], ◌∷◌, length, Ok, Err, refl, sym, ap, arith, rules}
use Rattle.iio_text.specs.Lines.{lines_of}
use Rattle.iio_desc.specs.declared.reader.DescFault.{DescFault}
use Rattle.iio_desc.specs.DescReader.{Reader, new_reader, after_line, read_lines, read_of, finished}
use Rattle.iio_history.specs.Law.{NoneEnds}
use Rattle.iio_history.specs.Outcome.{head_from, described}

-- after a fault all further answers are that fault
fault_stays : (fault : DescFault) (lines : List (List ℕ)) → read_lines (Err fault) lines ≡ Err fault
fault_stays fault [] = refl
fault_stays fault (line ∷ lines) = fault_stays fault lines

head_reads : (reader : Reader) (n : ℕ) (lines : List (List ℕ)) → NoneEnds lines
    → head_from false reader n lines ≡ described (n + length lines) [] (read_lines reader lines)
head_reads (Err fault) n lines none = ap (λ r. described (n + length lines) [] r) (sym (fault_stays fault lines))
head_reads (Ok reading) n [] none = ap (λ k. described k [] (finished (Ok reading))) (omega arith)
head_reads (Ok reading) n (line ∷ lines) none = search (rules, described, read_lines, head_reads (after_line (Ok reading) line) (n + 1) lines none.1)

pub reading_is_one : (drivers : ℕ) (text : List ℕ) → NoneEnds (lines_of text)
    → head_from false (new_reader drivers) 1 (lines_of text) ≡ described (1 + length (lines_of text)) [] (read_of drivers text)
reading_is_one drivers text none = head_reads (new_reader drivers) 1 (lines_of text) none
