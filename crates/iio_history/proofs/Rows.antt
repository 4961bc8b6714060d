-- Worked inputs: what the definitions say that each prints. Each row is a description, a script and the printed text.
use Rattle.std.proofs.Common.{◌≡◌, ℕ, pos, List, [], ◌∷◌, ◌++◌, map, refl, codes, None, Ok, Err}
use Rattle.std.specs.Fmt.{digits}
use Rattle.iio_sensor.specs.Driver.{Driver}
use Rattle.iio_sensor.specs.Ramp.{number_at}
use Rattle.hex.specs.Hex.{encode_with}
use Rattle.iio_text.specs.Lines.{lines_of}
use Rattle.iio_desc.specs.Description.{Description, DeviceRecord, OutputRecord}
use Rattle.iio_desc.specs.DescReader.{read_of}
use Rattle.iio_history.specs.Script.{Finished, script_from}
use Rattle.iio_history.specs.Outcome.{outcome_of, outcome_of_script}

-- a ramp whose asks with these numbers fail
abbrev ramp : List ℕ → Driver
ramp fails = record { sample = λ shape c k t. number_at c k t; bias = λ c. pos 0; asked = 0; last = None; fails = fails; faults = 0 }

-- what an input prints: a description and a script. Drivers 0 and 1 have no failing ask, driver 2 fails its second one
abbrev prints : List ℕ → List ℕ
prints input = (outcome_of (ramp [] ∷ ramp [] ∷ ramp (2 ∷ []) ∷ []) input).printed

abbrev plays : List ℕ → List ℕ → List ℕ
plays description script = prints (description ++ codes "%%\n" ++ script)

abbrev pub adc : List ℕ
adc =
    codes "trigger t0 2\ndevice adc0 t0\nchannel voltage0 le:u12/16>>4\nchannel voltage1 le:u12/16>>4\nchannel accel_x be:s16/16>>0\ntimestamp\nrow 0 1 2 -3\n"

leave_narrows_union : plays adc
    (codes "A \"OPEN adc0 1 00000005\\n\"\nB \"OPEN adc0 1 00000003\\n\"\nfire t0 1000\nB \"CLOSE adc0\\n\"\nfire t0 2000\nA \"READBUF adc0 8\\n\"\n")
    ≡ codes "A \"0\\n\"\nB \"0\\n\"\npoll t0 accepted 1\nhandle t0 adc0 captured\nB \"0\\n\"\npoll t0 accepted 1\nhandle t0 adc0 captured\nA \"8\\n00000005\\n\\x10\\x00\\xff\\xfd\\x10\\x00\\xff\\xfd\"\n"
unfolding digits
leave_narrows_union = refl

timestamp_moves_with_mask : plays
    (codes "trigger t0 2\ndevice d t0\nchannel voltage0 le:u16/16>>0\nchannel voltage1 le:u16/16>>0\nchannel voltage2 le:u16/16>>0\nchannel voltage3 le:u16/16>>0\nchannel voltage4 le:u16/16>>0\ntimestamp\nrow 0 1 2 3 4 5\n") (codes "A \"OPEN d 1 00000021\\n\"\nB \"OPEN d 1 0000003f\\n\"\nfire t0 258\nA \"READBUF d 16\\n\"\nB \"READBUF d 24\\n\"\n")
    ≡ codes "A \"0\\n\"\nB \"0\\n\"\npoll t0 accepted 1\nhandle t0 d captured\nA \"16\\n00000021\\n\\x01\\x00\\x00\\x00\\x00\\x00\\x00\\x00\\x02\\x01\\x00\\x00\\x00\\x00\\x00\\x00\"\nB \"24\\n0000003f\\n\\x01\\x00\\x02\\x00\\x03\\x00\\x04\\x00\\x05\\x00\\x00\\x00\\x00\\x00\\x00\\x00\\x02\\x01\\x00\\x00\\x00\\x00\\x00\\x00\"\n"
unfolding digits
timestamp_moves_with_mask = refl

listed_masks : plays (codes
    "trigger t0 2\ndevice adc0 t0\nchannel voltage0 le:u12/16>>4\nchannel voltage1 le:u12/16>>4\nchannel accel_x be:s16/16>>0\ntimestamp\nmasks 00000003 00000007\nrow 0 1 2 -3\n") (codes "A \"OPEN adc0 1 00000004\\n\"\nfire t0 1000\nA \"READBUF adc0 2\\n\"\n")
    ≡ codes "A \"0\\n\"\npoll t0 accepted 1\nhandle t0 adc0 captured\nA \"2\\n00000004\\n\\xff\\xfd\"\n"
unfolding digits
listed_masks = refl

no_listed_mask : plays (codes
    "trigger t0 2\ndevice adc0 t0\nchannel voltage0 le:u12/16>>4\nchannel voltage1 le:u12/16>>4\nchannel accel_x be:s16/16>>0\ntimestamp\nmasks 00000003\nrow 0 1 2 -3\n") (codes "B \"OPEN adc0 1 00000001\\n\"\nA \"OPEN adc0 1 00000004\\n\"\nfire t0 1000\nB \"READBUF adc0 2\\n\"\n")
    ≡ codes "B \"0\\n\"\nA \"-22\\n\"\npoll t0 accepted 1\nhandle t0 adc0 captured\nB \"2\\n00000001\\n\\x10\\x00\"\n"
unfolding digits
no_listed_mask = refl

overrun_and_refill : plays (codes "trigger t0 2\ndevice y t0\nchannel voltage0 le:u8/8>>0\nrow 1 65\nrow 2 66\nrow 3 67\nrow 4 68\n")
    (codes "A \"SET y BUFFERS_COUNT 1\\nOPEN y 1 00000001\\n\"\nfire t0 1\nfire t0 2\nfire t0 3\nA \"READBUF y 1\\n\"\nA \"READ y BUFFER overruns\\n\"\nfire t0 4\nA \"READBUF y 2\\n\"\nA \"READBUF y 1\\n\"\n")
    ≡ codes "A \"0\\n0\\n\"\npoll t0 accepted 1\nhandle t0 y captured\npoll t0 accepted 1\nhandle t0 y captured\npoll t0 accepted 1\nhandle t0 y captured\nA \"1\\n00000001\\nA\"\nA \"1\\n2\\n\"\npoll t0 accepted 1\nhandle t0 y captured\nA \"1\\n00000001\\nD0\\n\"\nA \"-11\\n\"\n"
unfolding digits
overrun_and_refill = refl

read_buffer_attributes : plays (codes "trigger t0 2\ndevice y t0\nchannel voltage0 le:u8/8>>0\nrow 1 65\nrow 2 66\nrow 3 67\nrow 4 68\n")
    (codes "A \"OPEN y 1 00000001\\n\"\nfire t0 1\nfire t0 2\nfire t0 3\nfire t0 4\nfire t0 5\nA \"READ y BUFFER overruns\\nREAD y BUFFER data_available\\nREAD y BUFFER length\\n\"\n")
    ≡ codes "A \"0\\n\"\npoll t0 accepted 1\nhandle t0 y captured\npoll t0 accepted 1\nhandle t0 y captured\npoll t0 accepted 1\nhandle t0 y captured\npoll t0 accepted 1\nhandle t0 y captured\npoll t0 accepted 1\nhandle t0 y captured\nA \"1\\n1\\n1\\n4\\n1\\n4\\n\"\n"
unfolding digits
read_buffer_attributes = refl

poll_while_outstanding : plays adc
    (codes "A \"OPEN adc0 1 00000009\\n\"\npoll t0 1000\npoll t0 2000\nhandle t0 adc0\nhandle t0 adc0\nA \"READBUF adc0 16\\nREAD adc0 BUFFER overruns\\n\"\n")
    ≡ codes "A \"0\\n\"\npoll t0 accepted 1\npoll t0 missed 1\nhandle t0 adc0 captured\nhandle t0 adc0 none\nA \"16\\n00000009\\n\\x10\\x00\\x00\\x00\\x00\\x00\\x00\\x00\\xe8\\x03\\x00\\x00\\x00\\x00\\x00\\x001\\n0\\n\"\n"
unfolding digits
poll_while_outstanding = refl

reopened_on_another_trigger : plays
    (codes "trigger t0 2\ntrigger t1 2\ndevice adc0 t0\nchannel voltage0 le:u12/16>>4\nchannel voltage1 le:u12/16>>4\nchannel accel_x be:s16/16>>0\ntimestamp\nrow 0 1 2 -3\n") (codes "A \"OPEN adc0 1 00000009\\n\"\npoll t0 1000\nA \"CLOSE adc0\\nSETTRIG adc0 t1\\nOPEN adc0 1 00000009\\n\"\npoll t0 1500\nhandle t0 adc0\npoll t0 2000\npoll t1 2500\nhandle t1 adc0\nA \"READBUF adc0 32\\n\"\n")
    ≡ codes "A \"0\\n\"\npoll t0 accepted 1\nA \"0\\n0\\n0\\n\"\npoll t0 missed 1\nhandle t0 adc0 idle\npoll t0 accepted 0\npoll t1 accepted 1\nhandle t1 adc0 captured\nA \"16\\n00000009\\n\\x10\\x00\\x00\\x00\\x00\\x00\\x00\\x00\\xc4\\x09\\x00\\x00\\x00\\x00\\x00\\x000\\n\"\n"
unfolding digits
reopened_on_another_trigger = refl

no_free_place : plays (codes
    "trigger t0 2\ndevice a1 t0\nchannel voltage0 le:u8/8>>0\ndevice a2 t0\nchannel voltage0 le:u8/8>>0\ndevice a3 t0\nchannel voltage0 le:u8/8>>0\ndevice a4 -\nchannel voltage0 le:u8/8>>0\n") (codes "A \"OPEN a1 1 00000001\\nOPEN a2 1 00000001\\nOPEN a3 1 00000001\\nOPEN a4 1 00000001\\nSETTRIG a1\\nGETTRIG a1\\nGETTRIG a4\\n\"\n")
    ≡ codes "A \"0\\n0\\n-28\\n-22\\n-16\\n2\\nt0\\n0\\n\"\n"
unfolding digits
no_free_place = refl

-- cut in the middle of a line, and between CR and LF; nothing is looked at after EXIT
usual_session_in_any_pieces : plays
    (codes "context \"<context/>\"\ntrigger t0 2\ndevice adc0 t0\nchannel voltage0 le:u12/16>>4\nchannel voltage1 le:u12/16>>4\nchannel accel_x be:s16/16>>0\ntimestamp\nrow 0 1 2 -3\n") (codes "A \"VERSION\\x0d\\nZPRINT\\x0d\\nPR\"\nA \"INT\\x0d\\nTIMEOUT 2500\\x0d\"\nA \"\\nOPEN adc0 256 00000005\\x0d\\n\"\nfire t0 1000\nfire t0 2000\nA \"READBUF adc0 1024\\x0d\\nCLOSE adc0\\x0d\\nEXIT\\x0d\\nVERSION\\n\"\nA \"VERSION\\n\"\nfire t0 3000\n")
    ≡ codes "A \"0.25.iiosim0\\n-22\\n\"\nA \"10\\n<context/>\\n\"\nA \"0\\n0\\n\"\npoll t0 accepted 1\nhandle t0 adc0 captured\npoll t0 accepted 1\nhandle t0 adc0 captured\nA \"8\\n00000005\\n\\x10\\x00\\xff\\xfd\\x10\\x00\\xff\\xfd0\\n0\\n\"\nA closed\nA closed\npoll t0 accepted 0\n"
unfolding digits
usual_session_in_any_pieces = refl

attributes_and_bias : plays adc
    (codes "A \"WRITE adc0 INPUT accel_x calibbias 6\\n-327\"\nA \"68\"\nA \"READ adc0 INPUT accel_x raw\\n\"\nA \"WRITE adc0 INPUT voltage0 scale 9\\n-0.000250\"\nA \"READ adc0 INPUT voltage0 scale\\n\"\nA \"OPEN adc0 1 00000001\\nREAD adc0 INPUT accel_x raw\\nWRITE adc0 INPUT voltage0 scale 1\\n-WRITE adc0 INPUT voltage0 scale 10\\n2147483648WRITE adc0 INPUT voltage0 raw 1\\n1WRITE adc0 INPUT accel_x calibbias 7\\n-32768\\x00\"\n")
    ≡ codes "A \"\"\nA \"6\\n\"\nA \"6\\n-32768\\n\"\nA \"9\\n\"\nA \"9\\n-0.000250\\n\"\nA \"0\\n-16\\n-22\\n-34\\n-13\\n7\\n\"\n"
unfolding digits
attributes_and_bias = refl

broken_limits : plays adc (codes "A \"WRITE adc0 INPUT accel_x calibbias 65537\\nVERSION\\n\"\nA \"VERSION\\n\"\n")
    ≡ codes "A \"-27\\n\"\nA closed\nA closed\n"
unfolding digits
broken_limits = refl

shared_failing_driver : plays (codes "trigger t0 2\ndevice w t0\nchannel voltage0 le:u16/16>>0\ndriver 2\n")
    (codes "A \"OPEN w 1 00000001\\n\"\nB \"OPEN w 1 00000001\\n\"\nfire t0 1\nfire t0 2\nfire t0 3\nA \"READBUF w 8\\n\"\nB \"READBUF w 8\\n\"\n")
    ≡ codes "A \"0\\n\"\nB \"0\\n\"\npoll t0 accepted 1\nhandle t0 w captured\npoll t0 accepted 1\nhandle t0 w fault\npoll t0 accepted 1\nhandle t0 w captured\nA \"4\\n00000001\\n\\x01\\x00\\x03\\x000\\n\"\nB \"4\\n00000001\\n\\x01\\x00\\x03\\x000\\n\"\n"
unfolding digits
shared_failing_driver = refl

threshold_events : plays (codes "trigger t0 2\ndevice e t0\nchannel voltage0 le:u8/8>>0\nchannel voltage1 le:u8/8>>0\nrow 1 0 100\nrow 2 0 0\nrow 3 0 100\n")
    (codes "A \"EVOPEN e\\nWRITE e INPUT voltage1 thresh_rising_value 2\\n50WRITE e INPUT voltage1 thresh_rising_en 1\\n1\"\nB \"EVOPEN e\\nEVREAD e\\n\"\nsense e 1\nsense e 2\nsense e 3\nA \"EVREAD e\\nEVREAD e\\nEVREAD e\\nEVCLOSE e\\nEVREAD e\\n\"\n")
    ≡ codes "A \"0\\n2\\n1\\n\"\nB \"-16\\n-9\\n\"\ne sensed 1\ne sensed 0\ne sensed 1\nA \"16\\n\\x01\\x00\\x00\\x00\\x00\\x00\\x01\\x00\\x01\\x00\\x00\\x00\\x00\\x00\\x00\\x0016\\n\\x01\\x00\\x00\\x00\\x00\\x00\\x01\\x00\\x03\\x00\\x00\\x00\\x00\\x00\\x00\\x00-11\\n0\\n-9\\n\"\n"
unfolding digits
threshold_events = refl

sensed_without_holder : plays
    (codes "trigger t0 2\ndevice e t0\nchannel voltage0 le:u8/8>>0\nchannel voltage1 le:u8/8>>0\nrow 1 0 100\nrow 2 0 0\nrow 3 0 100\n")
    (codes "A \"WRITE e INPUT voltage1 thresh_rising_value 2\\n50WRITE e INPUT voltage1 thresh_rising_en 1\\n1\"\nsense e 1\nA \"EVOPEN e\\nEVREAD e\\n\"\n")
    ≡ codes "A \"2\\n1\\n\"\ne sensed 1\nA \"0\\n-11\\n\"\n"
unfolding digits
sensed_without_holder = refl

-- the bias keeps the value below the threshold
lines_of_attributes : plays
    (codes "trigger t0 2\ndevice e t0\nchannel voltage0 le:u8/8>>0\nchannel voltage1 le:u8/8>>0\nrow 1 0 100\nattr voltage1 thresh_rising_value 50\nattr voltage1 thresh_rising_en 1\nattr voltage1 calibbias -60\n") (codes "sense e 1\nA \"READ e INPUT voltage1 calibbias\\nREAD e INPUT voltage1 thresh_rising_en\\nREAD e name\\n\"\n")
    ≡ codes "e sensed 0\nA \"3\\n-60\\n1\\n1\\n1\\ne\\n\"\n"
unfolding digits
lines_of_attributes = refl

unplugged_device : plays adc
    (codes "A \"OPEN adc0 1 00000005\\n\"\nfire t0 1000\nunplug adc0\nfire t0 2000\nA \"READBUF adc0 4\\nREADBUF adc0 4\\nREAD adc0 BUFFER overruns\\nSET adc0 BUFFERS_COUNT 2\\n\"\nB \"OPEN adc0 1 00000001\\nREAD adc0 BUFFER length\\nCLOSE adc0\\n\"\nA \"CLOSE adc0\\n\"\nunplug adc0\nsense adc0 1\n")
    ≡ codes "A \"0\\n\"\npoll t0 accepted 1\nhandle t0 adc0 captured\nadc0 unplugged\npoll t0 accepted 1\nhandle t0 adc0 idle\nA \"4\\n00000005\\n\\x10\\x00\\xff\\xfd-19\\n1\\n0\\n-19\\n\"\nB \"-19\\n-19\\n-9\\n\"\nA \"0\\n\"\nadc0 gone\nadc0 gone\n"
unfolding digits
unplugged_device = refl

-- if two checks fail, the refusal is that of the first one
refusals_of_open_in_order : plays
    (codes "trigger t0 1\ndevice d t0\nchannel voltage0 le:u8/8>>0\ndevice e t0\nchannel voltage0 le:u8/8>>0\nchannel voltage1 le:u8/8>>0\nmasks 00000001\n")
    (codes "A \"OPEN d 1 00000001\\nOPEN d 0 00000001\\nOPEN e 1 00000002\\nOPEN e 1 00000001\\nOPEN e 1 000 CYCLIC\\n\"\nunplug e\nA \"OPEN e 1 00000001 CYCLIC\\n\"\n")
    ≡ codes "A \"0\\n-22\\n-22\\n-28\\n-38\\n\"\ne unplugged\nA \"-19\\n\"\n"
unfolding digits
refusals_of_open_in_order = refl

-- a lost connection has ended; the last line isn't a step
lost_connections : plays adc
    (codes "# a comment, and a line without a word\n\nA \"OPEN adc0 1 00000001\\n\"\ndrop A\ndrop A\ndrop fire\nA \"OPEN\"\nfire t0 7\nclock 5\nfeed t0\n")
    ≡ codes "A \"0\\n\"\nA dropped\nA closed\nfire closed\nA closed\npoll t0 accepted 0\nclock 5\nrefused 18 count\n"
unfolding digits
lost_connections = refl

remask : plays adc (codes
    "A \"OPEN adc0 1 00000005\\n\"\nfire t0 1000\nfire t0 2000\nA \"REMASK adc0 00000002\\n\"\nA \"READ adc0 BUFFER overruns\\n\"\nA \"READ adc0 BUFFER discarded\\n\"\nfire t0 3000\nA \"READBUF adc0 2\\n\"\nA \"REMASK adc0 00000008\\n\"\nfire t0 4000\nA \"READBUF adc0 2\\n\"\nB \"REMASK adc0 00000001\\n\"\n")
    ≡ codes "A \"0\\n\"\npoll t0 accepted 1\nhandle t0 adc0 captured\npoll t0 accepted 1\nhandle t0 adc0 captured\nA \"0\\n\"\nA \"1\\n0\\n\"\nA \"1\\n2\\n\"\npoll t0 accepted 1\nhandle t0 adc0 captured\nA \"2\\n00000002\\n \\x00\"\nA \"-22\\n\"\npoll t0 accepted 1\nhandle t0 adc0 captured\nA \"2\\n00000002\\n \\x00\"\nB \"-9\\n\"\n"
unfolding digits
remask = refl

-- what was lost before a REMASK isn't counted after it; what it discarded is counted until the next OPEN; its refusals in
-- their order
remask_begins_anew : plays (codes "trigger t0 2\ndevice y t0\nchannel voltage0 le:u8/8>>0\nchannel voltage1 le:u8/8>>0\nmasks 00000001 00000002\nrow 0 65 66\n")
    (codes "A \"SET y BUFFERS_COUNT 1\\nOPEN y 1 00000001\\n\"\nfire t0 1\nfire t0 2\nA \"REMASK y 00000002\\nREAD y BUFFER overruns\\nREAD y BUFFER discarded\\n\"\nfire t0 3\nA \"READBUF y 1\\nREMASK y 00000003\\nREMASK y 0000001\\nREMASK y\\nREMASK z 00000001\\nREMASK y 00000000\\n\"\nB \"OPEN y 1 00000001\\n\"\nA \"CLOSE y\\nOPEN y 1 00000001\\nREAD y BUFFER discarded\\n\"\nunplug y\nA \"REMASK y 00000001\\n\"\n")
    ≡ codes "A \"0\\n0\\n\"\npoll t0 accepted 1\nhandle t0 y captured\npoll t0 accepted 1\nhandle t0 y captured\nA \"0\\n1\\n0\\n1\\n1\\n\"\npoll t0 accepted 1\nhandle t0 y captured\nA \"1\\n00000002\\nB-22\\n-22\\n-22\\n-19\\n-22\\n\"\nB \"-22\\n\"\nA \"0\\n0\\n1\\n0\\n\"\ny unplugged\nA \"-19\\n\"\n"
unfolding digits
remask_begins_anew = refl

-- ---- output devices and averaging devices

-- the description of a text, with the devices of the second text as output devices
abbrev pub described : List ℕ → Description
described text = elim (read_of 4 text) [ Ok d ↦ d | Err e ↦ record { context = []; triggers = []; devices = []; outputs = []; averages = [] } ]

abbrev pub as_output : DeviceRecord → OutputRecord
as_output d = record { name = d.name; trigger = d.trigger; shape = d.shape }

abbrev pub with_outputs : List ℕ → List ℕ → Description
with_outputs text outputs = record (described text) { outputs = map as_output (described outputs).devices }

abbrev pub with_average : List ℕ → List ℕ → ℕ → Description
with_average text name window = record (described text) { averages = record { name = name; base = 0; window = window } ∷ [] }

abbrev plays_in : Description → List ℕ → List ℕ
plays_in desc script = (outcome_of_script (record { desc = desc; drivers = [] }) (script_from desc Finished [] 1 (lines_of script))).printed

abbrev pub dac : Description
dac = with_outputs (codes "trigger t0 2\n") (codes "trigger t0 2\ndevice dac0 t0\nchannel voltage0 le:u16/16>>0\n")

given_in_order : plays_in dac
    (codes "A \"OPEN dac0 2 00000001\\nWRITEBUF dac0 4\\n\\x01\\x00\\x02\\x00\"\nfire t0 1\nfire t0 2\nfire t0 3\nA \"READ dac0 BUFFER underruns\\nREAD dac0 OUTPUT voltage0 raw\\n\"\n")
    ≡ codes "A \"0\\n4\\n\"\npoll t0 accepted 1\nhandle t0 dac0 given 0100\npoll t0 accepted 1\nhandle t0 dac0 given 0200\npoll t0 accepted 1\nhandle t0 dac0 underrun\nA \"1\\n1\\n1\\n2\\n\"\n"
unfolding digits encode_with
given_in_order = refl

given_round : plays_in dac
    (codes "A \"OPEN dac0 2 00000001 CYCLIC\\nWRITEBUF dac0 4\\n\\x01\\x00\\x02\\x00\"\nfire t0 1\nfire t0 2\nfire t0 3\nA \"WRITEBUF dac0 4\\n\\x01\\x00\\x02\\x00READ dac0 BUFFER data_available\\n\"\n")
    ≡ codes "A \"0\\n4\\n\"\npoll t0 accepted 1\nhandle t0 dac0 given 0100\npoll t0 accepted 1\nhandle t0 dac0 given 0200\npoll t0 accepted 1\nhandle t0 dac0 given 0100\nA \"-16\\n1\\n2\\n\"\n"
unfolding digits encode_with
given_round = refl

-- what an output device refuses, and in which order; the rest of a payload that doesn't fit isn't taken
refusals_of_outputs : plays_in dac
    (codes "A \"SET dac0 BUFFERS_COUNT 1\\nWRITEBUF dac0 2\\nabOPEN dac0 2 00000001\\nWRITEBUF dac0 3\\nabcWRITEBUF dac0 6\\nabcdefWRITEBUF dac0 2\\nabWRITEBUF dac0 0\\nWRITEBUF x 1\\na\"\nB \"OPEN dac0 2 00000001\\nWRITEBUF dac0 2\\nab\"\nA \"READBUF dac0 2\\nREMASK dac0 00000001\\nEVOPEN dac0\\nREAD dac0 BUFFER overruns\\nREAD dac0 INPUT voltage0 raw\\nREAD dac0 sampling_frequency\\nREAD dac0 name\\nWRITE dac0 OUTPUT voltage0 raw 1\\n1SETTRIG dac0\\n\"\nsense dac0 1\nunplug dac0\nA \"WRITEBUF dac0 2\\nab\"\nsense dac0 1\nA \"WRITEBUF dac0 65537\\n\"\n")
    ≡ codes "A \"0\\n-9\\n0\\n-22\\n4\\n-11\\n0\\n-19\\n\"\nB \"-16\\n-9\\n\"\nA \"-38\\n-38\\n-38\\n-2\\n-2\\n-2\\n4\\ndac0\\n-13\\n-16\\n\"\ndac0 sensed 0\ndac0 unplugged\nA \"-19\\n\"\ndac0 gone\nA \"-27\\n\"\nA closed\n"
unfolding digits encode_with
refusals_of_outputs = refl

-- an input device can't be written
input_is_not_written : plays adc (codes "A \"OPEN adc0 1 00000001\\nWRITEBUF adc0 2\\nabREAD adc0 BUFFER underruns\\n\"\n") ≡ codes "A \"0\\n-38\\n-2\\n\"\n"
unfolding digits
input_is_not_written = refl

abbrev pub avg : Description
avg = with_average (adc ++ codes "row 2000 4 2 -4\n") (codes "avg0") 2

means : plays_in avg (codes "A \"OPEN avg0 1 00000005\\n\"\nfire t0 1000\nfire t0 2000\nA \"READBUF avg0 4\\n\"\n")
    ≡ codes "A \"0\\n\"\npoll t0 accepted 1\nhandle t0 adc0 captured\npoll t0 accepted 1\nhandle t0 adc0 captured\nA \"4\\n00000005\\n \\x00\\xff\\xfd\"\n"
unfolding digits
means = refl

means_beside : plays_in avg
    (codes "A \"OPEN avg0 1 00000005\\n\"\nfire t0 1000\nB \"OPEN adc0 1 00000002\\n\"\nfire t0 2000\nA \"READBUF avg0 4\\n\"\nB \"READ adc0 INPUT voltage0 raw\\n\"\n")
    ≡ codes "A \"0\\n\"\npoll t0 accepted 1\nhandle t0 adc0 captured\nB \"0\\n\"\npoll t0 accepted 1\nhandle t0 adc0 captured\nA \"4\\n00000005\\n \\x00\\xff\\xfd\"\nB \"-16\\n\"\n"
unfolding digits
means_beside = refl

-- the inner member is there while there is a member; what an averaging device refuses; it goes away with its base
averages_in_turn : plays_in avg
    (codes "A \"OPEN avg0 1 00000005\\nREAD adc0 INPUT voltage0 raw\\nGETTRIG avg0\\nSETTRIG adc0\\nSETTRIG avg0\\nREMASK avg0 00000001\\nEVOPEN avg0\\nREAD avg0 name\\nREAD avg0 INPUT voltage0 raw\\nREAD avg0 BUFFER discarded\\nREAD avg0 BUFFER underruns\\nWRITEBUF avg0 1\\naOPEN avg0 1 00000001 CYCLIC\\n\"\nhandle t0 avg0\nsense avg0 5\nunplug avg0\nfire t0 1000\nA \"CLOSE avg0\\nREAD adc0 INPUT voltage0 raw\\nOPEN avg0 1 00000001\\n\"\nfire t0 1000\nA \"READ avg0 BUFFER data_available\\n\"\ndrop A\nfire t0 2000\nunplug adc0\nB \"OPEN avg0 1 00000001\\n\"\n")
    ≡ codes "A \"0\\n-16\\n2\\nt0\\n-16\\n-38\\n-38\\n-38\\n4\\navg0\\n-2\\n1\\n0\\n-2\\n-38\\n-38\\n\"\nhandle t0 avg0 none\navg0 sensed 0\navg0 gone\npoll t0 accepted 1\nhandle t0 adc0 captured\nA \"0\\n1\\n1\\n0\\n\"\npoll t0 accepted 1\nhandle t0 adc0 captured\nA \"1\\n0\\n\"\nA dropped\npoll t0 accepted 0\nadc0 unplugged\nB \"-19\\n\"\n"
unfolding digits
averages_in_turn = refl

-- ---- heads

no_input : prints [] ≡ []
no_input = refl

refused_in_the_head : prints (codes "trigger t0 2\ndevice adc0 t0\nchannel voltage0 le:u12/16>>8\n%%\n") ≡ codes "refused 3 type\n"
unfolding digits
refused_in_the_head = refl

head_without_end : prints (codes "trigger t0 2\ndevice adc0 t0\n") ≡ codes "refused 3 order\n"
unfolding digits
head_without_end = refl

-- the script's last line, without an LF, is a line; its text has no closing quote
refused_in_the_script : prints (adc ++ codes "%%\nA \"VERSION") ≡ codes "refused 9 text\n"
unfolding digits
refused_in_the_script = refl
