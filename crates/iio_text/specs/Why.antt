-- The words of refusals. (This project's own.)
use Rattle.std.specs.Prelude.{ℕ, List, codes}
use Rattle.iio_text.specs.declared.refusals.Why.{Why}
use Rattle.iio_text.specs.declared.refusals.Why.TheVariants.{Long, Text, Word, Order, Count, Name, Taken, Trigger, Device, BadType, Mask, Moment, Number, Driver, Attr, Limit, Bystander}

-- the word that says why a line is refused
abbrev pub why_text : Why → List ℕ
why_text Long = codes "long"
why_text Text = codes "text"
why_text Word = codes "word"
why_text Order = codes "order"
why_text Count = codes "count"
why_text Name = codes "name"
why_text Taken = codes "taken"
why_text Trigger = codes "trigger"
why_text Device = codes "device"
why_text BadType = codes "type"
why_text Mask = codes "mask"
why_text Moment = codes "moment"
why_text Number = codes "number"
why_text Driver = codes "driver"
why_text Attr = codes "attr"
why_text Limit = codes "limit"
why_text Bystander = codes "bystander"
