pub mod PlaceLists
pub mod DeviceLaws
pub mod DeviceRemasks
pub mod DeviceHandlings
