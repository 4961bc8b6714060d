use Rattle.std.proofs.Common.{[]}
use Rattle.iio_kinds.specs.Handling.{is_last}
use Rattle.iio_kinds.specs.MeanStation.{mean_station}
use Rattle.iio_kinds.specs.OutStation.{out_station}
use Rattle.iio_kinds.proofs.AnyCalls.{average_idle, average_stays, average_whole, output_whole}
use Rattle.iio_kinds.proofs.KeepLemmas.{head_input, keeps_output}
use Rattle.iio_kinds.proofs.any_device.AnyDevice.handle_due.Goals as goal

pub returns-in-Input-clause-keeps : goal.returns-in-Input-clause-keeps
returns-in-Input-clause-keeps g c = rw c.in-Input.is (head_input _ _ c.handle.ensures.keeps)

pub returns-in-Input-clause-station : goal.returns-in-Input-clause-station
returns-in-Input-clause-station g c = rw c.in-Input.is c.handle.ensures.station

pub returns-in-Output-clause-scan : goal.returns-in-Output-clause-scan
returns-in-Output-clause-scan g c =
    rw c.in-Output.is
    (output_whole c.args.due.now (is_last 0) c.in-Output.device.out.shape (out_station c.in-Output.device) (out_station c.in-Output.device).members [])

pub returns-in-Output-clause-keeps : goal.returns-in-Output-clause-keeps
returns-in-Output-clause-keeps g c = rw c.in-Output.is (keeps_output _ _ c.handle-in-Output.ensures.keeps).head

pub returns-in-Average-clause-answer : goal.returns-in-Average-clause-answer
returns-in-Average-clause-answer g c =
    let own = c.in-Average.field-0 in
    rw c.in-Average.is (average_idle own.base own.average.size c.args.due.now (is_last 0) (mean_station own))

pub returns-in-Average-clause-station : goal.returns-in-Average-clause-station
returns-in-Average-clause-station g c =
    let own = c.in-Average.field-0 in
    rw c.in-Average.is (average_stays own.base own.average.size c.args.due.now (is_last 0) own.average.shape (mean_station own))

pub returns-in-Average-clause-scan : goal.returns-in-Average-clause-scan
returns-in-Average-clause-scan g c =
    let own = c.in-Average.field-0 in
    rw c.in-Average.is
    (average_whole own.base own.average.size c.args.due.now (is_last 0) own.average.shape (mean_station own) (mean_station own).members [])
