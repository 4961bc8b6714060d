use Rattle.std.proofs.lemmas.Grind.{common_steps}
use Rattle.std.proofs.Common.{◌≡◌, suc, ◌≤◌, length, Ok, Err, sym, ◌∙◌, w64, arith, add-one}
use Rattle.std.proofs.lemmas.Int.{to_z-of_z}
use Rattle.iio_device.specs.Sensing.{sense_result, channel_sensed, channels_sensed, begun}
use Rattle.iio_device.proofs.SensingLemmas.{Fails, channel_fails, channel_more}
use Rattle.iio_device.proofs.sensing.sense_all.Given.{Over}
use Rattle.iio_device.proofs.sensing.sense_all.Goals as goal

failed : (g : Over) (c : goal.After-from_residual g)
    → Fails (channels_sensed c.args.shape.now c.args.t (length c.args.shape.now.channels) (begun (g.P.Sensor.driver c.args.plug.now) c.args.monitor.now))
    (g.P.Sensor.driver c.sense_one.new.plug) c.sense_one.new.monitor
failed g c =
    let t = to_z-of_z w64 c.args.t c.ranges.t in
    let within : suc c.loop-c.c ≤ length c.args.shape.now.channels = omega (arith, c.loop-c-test.true, c.loop-c.invariant.all) in
    let answer : Err c.in_err-count.field-0.0
    ≡ sense_result (channel_sensed c.args.shape.now c.args.t c.loop-c.c (begun (g.P.Sensor.driver c.loop-c.plug) c.loop-c.monitor)) =
    sym c.in_err-count.was ∙ rw t at c.sense_one.ensures.answer in
    channel_fails c.args.shape.now c.args.t c.loop-c.c (length c.args.shape.now.channels) (begun (g.P.Sensor.driver c.args.plug.now) c.args.monitor.now)
    (g.P.Sensor.driver c.loop-c.plug) _ c.loop-c.monitor _ c.loop-c.count _ (rw t at c.loop-c.invariant.looked) within
    (rw t at c.sense_one.ensures.driver) (rw t at c.sense_one.ensures.monitor) answer

pub returns-in_err-count-clause-driver : goal.returns-in_err-count-clause-driver
returns-in_err-count-clause-driver g c = let f = failed g c in f.driver

pub returns-in_err-count-clause-monitor : goal.returns-in_err-count-clause-monitor
returns-in_err-count-clause-monitor g c = let f = failed g c in f.monitor

pub returns-in_err-count-clause-answer : goal.returns-in_err-count-clause-answer
returns-in_err-count-clause-answer g c = let f = failed g c in f.answer c.from_residual.result c.from_residual.ensures.0

pub loop-c-preserved : goal.loop-c-preserved
loop-c-preserved g c =
    let t = to_z-of_z w64 c.args.t c.ranges.t in
    let answer : Ok c.in_ok-count.field-0
    ≡ sense_result (channel_sensed c.args.shape.now c.args.t c.loop-c.c (begun (g.P.Sensor.driver c.loop-c.plug) c.loop-c.monitor)) =
    sym c.in_ok-count.was ∙ rw t at c.sense_one.ensures.answer in
    record {
      looked = rw (t, add-one) (channel_more c.args.shape.now c.args.t c.loop-c.c (begun (g.P.Sensor.driver c.args.plug.now) c.args.monitor.now)
          (g.P.Sensor.driver c.loop-c.plug) _ c.loop-c.monitor _ c.loop-c.count c.in_ok-count.field-0 (rw t at c.loop-c.invariant.looked)
          (rw t at c.sense_one.ensures.driver) (rw t at c.sense_one.ensures.monitor) answer);
      few = omega (arith, c.in_ok-count.ensures.few, c.loop-c.invariant.few);
      channels = c.sense_one.ensures.same ∙ c.loop-c.invariant.channels;
      all = c.loop-c.invariant.all;
    }

pub overflow_add-count : goal.overflow_add-count
overflow_add-count g c = grind (arith, common_steps)
