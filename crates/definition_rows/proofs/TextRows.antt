-- Worked examples of printed texts.
use Rattle.std.proofs.Common.{◌≡◌, ℕ, List, [], ◌∷◌, ◌++◌, refl}
use Rattle.std.specs.Prelude.{pos, neg_ℤ, map, true, Some, None, replicate, option_map, codes}
use Rattle.std.specs.Fmt.{digits}
use Rattle.definitions.specs.Frames.{Subframe}
use Rattle.definitions.specs.DataSets.{ephemeris}
use Rattle.definitions.specs.Events.{subframe, reported, acquired, locked, unlocked, signal_lost}
use Rattle.definitions.specs.Events.{edge, gap}
use Rattle.definitions.specs.Texts.{event_text, page_text}
use Rattle.definitions.specs.Pages.{page_of}
use Rattle.std.specs.Prelude.{false}
use Rattle.definitions.specs.Answers.{acquiring, holding, tracking, idle, shown}
use Rattle.definitions.specs.Texts.{answer_text, word_text}
use Rattle.std.specs.List.{range_with_len}
use Rattle.definitions.specs.DataSets.{single}
use Rattle.definitions.specs.Events.{count}
use Rattle.definitions.specs.Pages.{almanac}
use Rattle.definitions.specs.Answers.{accepted, refused}
use Rattle.definitions.specs.Events.{almanacs}
use Rattle.definitions.specs.Texts.{at_time, for_client}
use Rattle.definitions.specs.Pages.{clock, eph2, eph3}

abbrev words : List ℕ → Subframe
words data_words = record { words = map (λ w. Some w) data_words }

-- a subframe of which word 5 is missing
sub_text : event_text 0 (subframe (record {
  words =
      Some 0x8b0000 ∷ Some 0x84 ∷ Some 0 ∷ Some 0 ∷ None ∷ replicate 5 (Some 0);
}))
    ≡ codes "sub 0 1 1 8b0000 000084 000000 000000 ------ 000000 000000 000000 000000 000000"
unfolding event_text digits
sub_text = refl

-- the subframe's ID comes before the count of the time of week: 3 before 100, which are 3 * 2 ^ 2
-- and 100 * 2 ^ 7 in the data of the handover word
id_before_count : event_text 1 (subframe (words (0x8b0000 ∷ 0x00320c ∷ replicate 8 0)))
    ≡ codes "sub 1 3 100 8b0000 00320c 000000 000000 000000 000000 000000 000000 000000 000000"
unfolding event_text digits
id_before_count = refl

-- a clock and ephemeris of zeros
eph_text : event_text 0 (reported (ephemeris (replicate 31 (pos 0))))
    ≡ codes "eph 0 wn=0:0 l2=0:0 ura=0:0 health=0:0 iodc=0:0 l2p=0:0 tgd=0:-31 toc=0:4 "
    ++ codes "af2=0:-55 af1=0:-43 af0=0:-31 iode=0:0 crs=0:-5 dn=0:-43 m0=0:-31 cuc=0:-29 "
    ++ codes "e=0:-33 cus=0:-29 sqrta=0:-19 toe=0:4 fit=0:0 aodo=0:0 cic=0:-29 om0=0:-31 "
    ++ codes "cis=0:-29 i0=0:-31 crc=0:-5 w=0:-31 omdot=0:-43 iode3=0:0 idot=0:-43"
unfolding event_text digits
eph_text = refl

-- a special message: SV ID 55, `A` to `V`
message_text : option_map (page_text 3)
    (page_of (words (0x8b0000 ∷ 0x90 ∷ 0x774142 ∷ 0x434445 ∷ 0x464748 ∷ 0x494a4b ∷ 0x4c4d4e
    ∷ 0x4f5051 ∷ 0x525354 ∷ 0x555600 ∷ [])))
    ≡ Some (codes "msg 3 4142434445464748494a4b4c4d4e4f50515253545556")
unfolding page_of page_text digits
message_text = refl

-- health of subframe 5, SV ID 51
health_text : option_map (page_text 0)
    (page_of (words (0x8b0000 ∷ 0x94 ∷ 0x730102 ∷ 0x041041 ∷ 0 ∷ 0 ∷ 0 ∷ 0 ∷ 0x00003f ∷ 0 ∷ [])))
    ≡ Some
    (codes "hlt 0 data=1:0 sv=51:0 toa=1:12 wna=2:0 h1=1:0 h2=1:0 h3=1:0 h4=1:0 h5=0:0 "
    ++ codes "h6=0:0 h7=0:0 h8=0:0 h9=0:0 h10=0:0 h11=0:0 h12=0:0 h13=0:0 h14=0:0 h15=0:0 "
    ++ codes "h16=0:0 h17=0:0 h18=0:0 h19=0:0 h20=0:0 h21=0:0 h22=0:0 h23=0:0 h24=63:0")
unfolding page_of page_text digits
health_text = refl

-- coordinated universal time
utc_text : option_map (page_text 0)
    (page_of (words (0x8b0000 ∷ 0x90 ∷ 0x7801ff ∷ 0x02fe01 ∷ 0xff0102 ∷ 0x000001 ∷ 0x000000
    ∷ 0x020304 ∷ 0xff0506 ∷ 0x070000 ∷ [])))
    ≡ Some
    (codes "utc 0 data=1:0 sv=56:0 al0=1:-30 al1=-1:-27 al2=2:-24 al3=-2:-24 be0=1:11 "
    ++ codes "be1=-1:14 be2=1:16 be3=2:16 a1=1:-50 a0=2:-30 tot=3:12 wnt=4:0 dtls=-1:0 "
    ++ codes "wnlsf=5:0 dn=6:0 dtlsf=7:0")
unfolding page_of page_text digits
utc_text = refl

-- a cell that is found
acq_text : event_text 2 (acquired 7 (record {
  bin = neg_ℤ (pos 3);
  half_chip = 100;
  power =
      76562516;
  found = true;
})) ≡ codes "acq 2 7 found -3 100 76562516"
unfolding event_text digits
acq_text = refl

other_texts : map (event_text 1) (locked ∷ unlocked ∷ signal_lost ∷ edge ∷ gap 150 ∷ [])
    ≡ codes "lock 1" ∷ codes "unlock 1" ∷ codes "lost 1" ∷ codes "bits 1" ∷ codes "gap 1 150" ∷ []
unfolding event_text digits
other_texts = refl

-- the texts of a state
states : map (λ view. answer_text 2 (shown view)) (idle ∷ acquiring 7 3 2046 ∷ holding 7 4
    ∷ tracking 7 5 (record { v = neg_ℤ (pos 6); w = pos 8 }) false false
    ∷ tracking 7 5 (record { v = neg_ℤ (pos 6); w = pos 8 }) true false
    ∷ tracking 7 5 (record { v = neg_ℤ (pos 6); w = pos 8 }) true true ∷ [])
    ≡ codes "state 2 idle" ∷ codes "state 2 acquire 7 3 2046" ∷ codes "state 2 hold 7 4"
    ∷ codes "state 2 track 7 5 -6 8 open" ∷ codes "state 2 track 7 5 -6 8 lock"
    ∷ codes "state 2 track 7 5 -6 8 bits" ∷ []
unfolding answer_text digits
states = refl

-- words in lower case
lower_case : word_text (Some 0xabcdef) ≡ codes "abcdef"
lower_case = refl

-- a search whose greatest power is below the threshold
none_text : event_text 2 (acquired 7 (record {
  bin = neg_ℤ (pos 3);
  half_chip = 100;
  power = 9;
  found = false;
})) ≡ codes "acq 2 7 none -3 100 9"
unfolding event_text digits
none_text = refl

-- an almanac whose thirteen values tell its fields apart, with the exponents of table 20-VI
alm_text : event_text 1 (reported (single (record {
  kind = almanac;
  values = map pos (range_with_len 1 13);
}))) ≡ codes "alm 1 data=1:0 sv=2:0 e=3:-21 toa=4:12 di=5:-19 omdot=6:-38 health=7:0 sqrta=8:-11 "
    ++ codes "om0=9:-23 w=10:-23 m0=11:-23 af0=12:-20 af1=13:-38"
unfolding event_text digits page_text
alm_text = refl

-- early, prompt and late, in phase and in quadrature
count_text : event_text 1 (count (record {
  ie = pos 1;
  qe = pos 2;
  ip = pos 3;
  qp = pos 4;
  il = pos 5;
  ql = pos 6;
})) ≡ codes "count 1 1 2 3 4 5 6"
unfolding event_text digits
count_text = refl

-- a line is its client, its time and its text
whole_line : for_client 3 (at_time 12 (codes "ok")) ≡ codes "3 12 ok"
unfolding digits
whole_line = refl

answers : map (answer_text 2) (accepted ∷ refused 9 ∷ []) ≡ codes "ok" ∷ codes "err 9" ∷ []
unfolding answer_text digits
answers = refl

-- pages of a clock and ephemeris have no line of their own
no_texts : map (λ kind. page_text 0 (record { kind = kind; values = [] })) (clock ∷ eph2 ∷ eph3
    ∷ [])
    ≡ replicate 3 []
unfolding page_text
no_texts = refl

-- a set of almanacs with its time and each satellite's health
als_text : event_text 3 (almanacs (record { toa = pos 7; health = pos 8 ∷ pos 9 ∷ [] }))
    ≡ codes "als 3 toa=7:12 8 9"
unfolding event_text digits
als_text = refl
