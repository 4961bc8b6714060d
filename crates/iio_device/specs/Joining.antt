-- Why another member is refused, by plain conditions: a device, its members and the history cite this order. (This project's
-- own.)
use Rattle.std.specs.Prelude.{Bool, List, [], ◌∷◌}
use Rattle.iio_device.specs.declared.roster.JoinFault.{JoinFault}
use Rattle.iio_device.specs.declared.roster.JoinFault.TheVariants.{NoTrigger, NoUnion, NoPlace}

-- the refusals by the present members and by the trigger, in this order
abbrev pub member_faults : Bool → Bool → Bool → List (Bool × JoinFault)
member_faults is_without_trigger is_without_union is_full =
    (is_without_trigger, NoTrigger)
    ∷ (is_without_union, NoUnion)
    ∷ (is_full, NoPlace)
    ∷ []
