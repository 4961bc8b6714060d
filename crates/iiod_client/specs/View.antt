-- How contracts see an answer, and what the code keeps true of it.
use Rattle.std.specs.Prelude.{◌≤◌, vec_capacity}
use Rattle.iiod_client.specs.declared.answer.Answer.TheInside.{Inside}
use Rattle.iiod_client.specs.declared.answer.TheConstants.{MAX_ASKED}
use Rattle.iiod_client.specs.Answer.{Asked}
use Rattle.iiod_client.specs.Standing.{AnswerRecord, IsSoundPlace}

abbrev pub asked_of : Inside → Asked
asked_of a = record { bytes = a.asked; mask = a.mask.bits; channels = a.channels; size = a.size }

abbrev pub record_of : Inside → AnswerRecord
record_of a = record { asked = asked_of a; place = a.place; line = a.line.items; body = a.body.items }

pub record IsSound (a : Inside) : Type 0 where
  pub room : a.asked ≤ vec_capacity a.body
  pub most : a.asked ≤ MAX_ASKED
  pub some : 1 ≤ a.channels
  pub few : a.channels ≤ 64
  pub size : 1 ≤ a.size
  pub place : IsSoundPlace a.place (asked_of a) a.line.items a.body.items
