-- What `layout` prints for an input, by what was read of it.
use Rattle.std.proofs.Common.{◌≡◌, ℕ, zero, suc, List, [], ◌∷◌, ◌++◌, Option, Some, None, IfSome, refl, sym, ap, ◌∙◌, subst}
use Rattle.iio_text.specs.declared.refusals.Why.{Why}
use Rattle.iio_text.specs.declared.refusals.Why.TheVariants.{Device, Mask}
use Rattle.iio_mask.specs.Text.{mask_of}
use Rattle.iio_layout.specs.Shape.{ShapeRecord, count_of}
use Rattle.iio_desc.specs.declared.reader.DescFault.TheVariants.{Line, Mem}
use Rattle.iio_desc.specs.Description.{Description, DeviceRecord}
use Rattle.iio_history.specs.Outcome.{Cut, Described, Faulty, Head, Outcome, head_of, only_ending}
use Rattle.iio_history.specs.Script as script
use Rattle.iio_script.specs.declared.status.Status.{Status}
use Rattle.iio_script.specs.declared.status.Status.TheVariants as status
use Rattle.iio_script.specs.Ends.{HasStatus, Writes, WritesFront, status_of}
use Rattle.iio_script.specs.Plays.{Prints, TakesFor, WritesText}
use Rattle.iiod_serve.specs.Reading.{IsStop, Says, read_head, served_of}
use Rattle.iiod_serve.proofs.HeadLaws.{printed_writes, status_by}
use Rattle.iiod_program.specs.Layout.{TakesForLine, device_named, laid, laid_out, laid_under, layout_of}
use Rattle.iiod_program.specs.Placing.{layout_text}

-- ---- a word of the program is refused at line 0

-- what is laid out, by what the program's words name
abbrev mask_laid : ShapeRecord → Option ℕ → Outcome
mask_laid shape None = only_ending (script.Refused 0 Mask)
mask_laid shape (Some bits) = record { printed = layout_text shape bits; ending = script.Finished }

mask_is : (shape : ShapeRecord) (o : Option ℕ)
    → mask_laid shape o ≡ elim o
    [ None ↦ only_ending (script.Refused 0 Mask) | Some bits ↦ record { printed = layout_text shape bits; ending = script.Finished } ]
mask_is shape None = refl
mask_is shape (Some bits) = refl

abbrev device_laid : List ℕ → Option DeviceRecord → Outcome
device_laid mask None = only_ending (script.Refused 0 Device)
device_laid mask (Some d) = laid_under d.shape mask

device_is : (mask : List ℕ) (o : Option DeviceRecord)
    → device_laid mask o ≡ elim o [ None ↦ only_ending (script.Refused 0 Device) | Some d ↦ laid_under d.shape mask ]
device_is mask None = refl
device_is mask (Some d) = refl

-- a word of the program is refused at line 0
mask_zero : (shape : ShapeRecord) (o : Option ℕ) (n : ℕ) (why : Why) → status.Refused (suc n) why ≡ status_of (mask_laid shape o).ending → ⊥
mask_zero shape None n why is = absurd (cc)
mask_zero shape (Some bits) n why is = absurd (cc)

device_zero : (mask : List ℕ) (o : Option DeviceRecord) (n : ℕ) (why : Why) → status.Refused (suc n) why ≡ status_of (device_laid mask o).ending → ⊥
device_zero mask None n why is = absurd (cc)
device_zero mask (Some d) n why is =
    mask_zero d.shape (mask_of mask (count_of d.shape)) n why
    (is ∙ ap (λ (o : Outcome). status_of o.ending) (sym (mask_is d.shape (mask_of mask (count_of d.shape)))))

laid_zero : (desc : Description) (device mask : List ℕ) (n : ℕ) (why : Why) → status.Refused (suc n) why ≡ status_of (laid_out desc device mask).ending → ⊥
laid_zero desc device mask n why is =
    device_zero mask (device_named desc device) n why (is ∙ ap (λ (o : Outcome). status_of o.ending) (sym (device_is mask (device_named desc device))))

-- ---- a description that was read

-- what was printed of its layout, and how that ended
abbrev pub PrintsLaid : Description → (device mask : List ℕ) → Status → (before after : Option (List ℕ)) → Type 0
PrintsLaid desc device mask st before after = (text : List ℕ) × WritesText before after text × Prints (laid_out desc device mask) st text

says_laid : (desc : Description) (device mask : List ℕ) (head : Head) → Says desc head → laid_out desc device mask ≡ laid device mask head
says_laid desc device mask (Described said first lines) is = ap (λ (d : Description). laid_out d device mask) is
says_laid desc device mask (Faulty (Line n why)) is = absurd is
says_laid desc device mask (Faulty Mem) is = absurd is
says_laid desc device mask Cut is = absurd is

pub lay_writes : (drivers : ℕ) (desc : Description) (device mask : List ℕ) (st : Status) (left before after : Option (List ℕ))
    → IfSome left (λ input. Says desc (head_of drivers input))
    → PrintsLaid desc device mask st before after → IfSome left (λ input. IfSome before (λ xs. Writes (layout_of drivers input device mask) xs st after))
lay_writes drivers desc device mask st None before after says prints = tt
lay_writes drivers desc device mask st (Some input) before after says prints =
    subst (λ (o : Outcome). IfSome before (λ xs. Writes o xs st after)) (says_laid desc device mask (head_of drivers input) says)
    (printed_writes (laid_out desc device mask) st before after prints)

pub lay_status : (drivers : ℕ) (desc : Description) (device mask : List ℕ) (st : Status) (left before after : Option (List ℕ))
    → IfSome left (λ input. Says desc (head_of drivers input))
    → PrintsLaid desc device mask st before after → IfSome left (λ input. HasStatus (layout_of drivers input device mask) st)
lay_status drivers desc device mask st None before after says prints = tt
lay_status drivers desc device mask st (Some input) before after says prints =
    subst (λ (o : Outcome). HasStatus o st) (says_laid desc device mask (head_of drivers input) says)
    (status_by (laid_out desc device mask) st prints.0 prints.2)

pub lay_near : (desc : Description) (device mask : List ℕ) (st : Status) (left left' before after : Option (List ℕ))
    → PrintsLaid desc device mask st before after
    → IfSome left (λ input. TakesForLine st input left')
lay_near desc device mask st None left' before after prints = tt
lay_near desc device mask st (Some input) left' before after prints = by st prints.0 prints.2
  where
    by : (s : Status) (text : List ℕ) → Prints (laid_out desc device mask) s text → TakesForLine s input left'
    by (status.Refused zero why) text prints = tt
    by (status.Refused (suc n) why) text prints = absurd (laid_zero desc device mask n why prints.ends)
    by status.Done text prints = tt
    by status.TooLong text prints = tt
    by status.Usage text prints = tt
    by status.ReadFault text prints = tt
    by status.WriteFault text prints = tt
    by status.Memory text prints = tt

-- ---- another end of the reading

front_nil : (front rest : List ℕ) → [] ≡ front ++ rest → front ≡ []
front_nil [] rest is = refl
front_nil (x ∷ xs) rest is = absurd (cc)

-- nothing was written, because there was nothing to write
front_none : (outcome : Outcome) (xs : List ℕ) (after : Option (List ℕ)) → WritesFront xs [] after → WritesFront xs outcome.printed after
front_none outcome xs after f =
    record {
      front = f.front;
      rest = outcome.printed;
      parts = ap (λ (t : List ℕ). t ++ outcome.printed) (sym (front_nil f.front f.rest f.parts));
      written =
          f.written;
    }

stop_writes : (device mask : List ℕ) (head : Head) (xs : List ℕ) (st : Status) (after : Option (List ℕ)) → IsStop st → Writes (read_head head) xs st after
    → Writes (laid device mask head) xs st after
stop_writes device mask (Described desc first lines) xs status.Done after stop writes = absurd stop
stop_writes device mask (Described desc first lines) xs status.Usage after stop writes = absurd stop
stop_writes device mask (Described desc first lines) xs (status.Refused n why) after stop writes = absurd (let is = writes.ends in cc)
stop_writes device mask (Described desc first lines) xs status.TooLong after stop writes = absurd (let is = writes.ends in cc)
stop_writes device mask (Described desc first lines) xs status.ReadFault after stop writes = front_none (laid_out desc device mask) xs after writes
stop_writes device mask (Described desc first lines) xs status.WriteFault after stop writes = front_none (laid_out desc device mask) xs after writes
stop_writes device mask (Described desc first lines) xs status.Memory after stop writes = front_none (laid_out desc device mask) xs after writes
stop_writes device mask (Faulty (Line n why)) xs st after stop writes = writes
stop_writes device mask (Faulty Mem) xs st after stop writes = writes
stop_writes device mask Cut xs st after stop writes = writes

pub stops_writes : (drivers : ℕ) (device mask : List ℕ) (st : Status) (left before after : Option (List ℕ)) → IsStop st
    → IfSome left (λ input. IfSome before (λ xs. Writes (served_of drivers input) xs st after))
    → IfSome left (λ input. IfSome before (λ xs. Writes (layout_of drivers input device mask) xs st after))
stops_writes drivers device mask st None before after stop writes = tt
stops_writes drivers device mask st (Some input) None after stop writes = tt
stops_writes drivers device mask st (Some input) (Some xs) after stop writes = stop_writes device mask (head_of drivers input) xs st after stop writes

stop_status : (device mask : List ℕ) (head : Head) (st : Status) → IsStop st → HasStatus (read_head head) st → HasStatus (laid device mask head) st
stop_status device mask (Described desc first lines) status.Done stop has = absurd stop
stop_status device mask (Described desc first lines) status.Usage stop has = absurd stop
stop_status device mask (Described desc first lines) (status.Refused n why) stop has = absurd (cc)
stop_status device mask (Described desc first lines) status.TooLong stop has = absurd (cc)
stop_status device mask (Described desc first lines) status.ReadFault stop has = tt
stop_status device mask (Described desc first lines) status.WriteFault stop has = tt
stop_status device mask (Described desc first lines) status.Memory stop has = tt
stop_status device mask (Faulty (Line n why)) st stop has = has
stop_status device mask (Faulty Mem) st stop has = has
stop_status device mask Cut st stop has = has

pub stops_status : (drivers : ℕ) (device mask : List ℕ) (st : Status) (left : Option (List ℕ)) → IsStop st
    → IfSome left (λ input. HasStatus (served_of drivers input) st)
    → IfSome left (λ input. HasStatus (layout_of drivers input device mask) st)
stops_status drivers device mask st None stop has = tt
stops_status drivers device mask st (Some input) stop has = stop_status device mask (head_of drivers input) st stop has

stop_near : (st : Status) (input : List ℕ) (left : Option (List ℕ)) → TakesFor st input left → TakesForLine st input left
stop_near (status.Refused zero why) input left near = tt
stop_near (status.Refused (suc n) why) input left near = near
stop_near status.Done input left near = tt
stop_near status.TooLong input left near = tt
stop_near status.Usage input left near = tt
stop_near status.ReadFault input left near = tt
stop_near status.WriteFault input left near = tt
stop_near status.Memory input left near = tt

pub stops_near : (st : Status) (left left' : Option (List ℕ)) → IfSome left (λ input. TakesFor st input left')
    → IfSome left (λ input. TakesForLine st input left')
stops_near st None left' near = tt
stops_near st (Some input) left' near = stop_near st input left' near

pub stops_words : (st : Status) → IsStop st → st ≡ status.Usage → ⊥
stops_words st stop is = subst IsStop is stop

-- what was printed isn't the usage line
pub no_usage : (outcome : Outcome) (st : Status) (text : List ℕ) → Prints outcome st text → st ≡ status.Usage → ⊥
no_usage outcome st text f is = subst (λ (x : Status). Prints outcome x text) is f
