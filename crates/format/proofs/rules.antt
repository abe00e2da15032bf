-- The rules on earlier items: limits, order keys, sound lists, what the rules do not look at.
pub mod LimitLaws
pub mod KeyLaws
pub mod SoundLaws
pub mod RisingLaws
pub mod AlikeLaws
