use Rattle.std.proofs.Common.{◌∙◌, subst}
use Rattle.iio_desc.specs.declared.reader.DescFault.{DescFault}
use Rattle.iio_desc.specs.DescFault.{Locates}
use Rattle.iio_desc.specs.DescReader.{ended_by}
use Rattle.iio_script.proofs.OpeningLaws.{end_number}
use Rattle.iio_script.proofs.opening.end_at.Goals as goal

pub returns-in-Err-Line-clause-refused : goal.returns-in-Err-Line-clause-refused
returns-in-Err-Line-clause-refused c =
    end_number c.args.reader c.args.line.now c.in-Err-Line.number c.in-Err-Line.why c.requires.reading
    (subst (λ (e : DescFault). Locates e (ended_by c.args.reader c.args.line.now)) c.in-Err-Line.field-0-is c.in-Err-Line.ensures.err) ∙ c.requires.lines
